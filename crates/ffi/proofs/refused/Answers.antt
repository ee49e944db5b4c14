use mathlib.Core.Path.{refl, ap, ap₂}
use Rattle.column.specs.declared.error.Error.TheVariants.{NegativeRun, InvalidInterval, UnequalLength, LengthTooShort}
use Rattle.ffi.specs.Reading.{read_error}
use Rattle.ffi.proofs.Laying.{refusal_laid, signed-told}
use borrow.Author.Rules.{rules}
use Rattle.ffi.proofs.refused.Goals as goal

pub returns-in-UnknownCode : goal.returns-in-UnknownCode
unfolding read_error
returns-in-UnknownCode c = refusal_laid _ c.in-UnknownCode.is c.fields.ensures (search rules) (search rules) (search rules) refl

pub returns-in-LengthMismatch : goal.returns-in-LengthMismatch
unfolding read_error
returns-in-LengthMismatch c = refusal_laid _ c.in-LengthMismatch.is c.fields-in-LengthMismatch.ensures (search rules) (search rules) (search rules) refl

pub returns-in-InvalidOffsets : goal.returns-in-InvalidOffsets
unfolding read_error
returns-in-InvalidOffsets c = refusal_laid _ c.in-InvalidOffsets.is c.fields-in-InvalidOffsets.ensures refl refl refl refl

pub returns-in-InvalidEnds : goal.returns-in-InvalidEnds
unfolding read_error
returns-in-InvalidEnds c = refusal_laid _ c.in-InvalidEnds.is c.fields-in-InvalidEnds.ensures (search rules) (search rules) (search rules) refl

pub returns-in-TooMany : goal.returns-in-TooMany
unfolding read_error
returns-in-TooMany c = refusal_laid _ c.in-TooMany.is c.fields-in-TooMany.ensures (search rules) (search rules) (search rules) refl

pub returns-in-NegativeRun : goal.returns-in-NegativeRun
unfolding read_error
returns-in-NegativeRun c =
    let run = signed-told c.in-NegativeRun.run' (search rules) c.as_unsigned.ensures in
    refusal_laid _ c.in-NegativeRun.is c.fields-in-NegativeRun.ensures (search rules) run.0 refl (ap (NegativeRun c.in-NegativeRun.index) run.1)

pub returns-in-Overflow : goal.returns-in-Overflow
unfolding read_error
returns-in-Overflow c = refusal_laid _ c.in-Overflow.is c.fields-in-Overflow.ensures refl refl refl refl

pub returns-in-DuplicateKey : goal.returns-in-DuplicateKey
unfolding read_error
returns-in-DuplicateKey c = refusal_laid _ c.in-DuplicateKey.is c.fields-in-DuplicateKey.ensures (search rules) (search rules) (search rules) refl

pub returns-in-InvalidInterval : goal.returns-in-InvalidInterval
unfolding read_error
returns-in-InvalidInterval c =
    let start = signed-told c.in-InvalidInterval.start (search rules) c.as_unsigned-in-InvalidInterval.ensures in
    let end = signed-told c.in-InvalidInterval.end (search rules) c.as_unsigned-in-InvalidInterval-2.ensures in
    refusal_laid _ c.in-InvalidInterval.is c.fields-in-InvalidInterval.ensures (search rules) start.0 end.0 (ap₂ (InvalidInterval c.in-InvalidInterval.index) start.1 end.1)

pub returns-in-UnequalLength : goal.returns-in-UnequalLength
unfolding read_error
returns-in-UnequalLength c =
    let left = signed-told c.in-UnequalLength.left (search rules) c.as_unsigned-in-UnequalLength.ensures in
    let right = signed-told c.in-UnequalLength.right (search rules) c.as_unsigned-in-UnequalLength-2.ensures in
    refusal_laid _ c.in-UnequalLength.is c.fields-in-UnequalLength.ensures left.0 right.0 refl (ap₂ UnequalLength left.1 right.1)

pub returns-in-LengthTooShort : goal.returns-in-LengthTooShort
unfolding read_error
returns-in-LengthTooShort c =
    let requested = signed-told c.in-LengthTooShort.requested (search rules) c.as_unsigned-in-LengthTooShort.ensures in
    let required = signed-told c.in-LengthTooShort.required (search rules) c.as_unsigned-in-LengthTooShort-2.ensures in
    refusal_laid _ c.in-LengthTooShort.is c.fields-in-LengthTooShort.ensures requested.0 required.0 refl (ap₂ LengthTooShort requested.1 required.1)

pub returns-in-ShortBuffer : goal.returns-in-ShortBuffer
unfolding read_error
returns-in-ShortBuffer c = refusal_laid _ c.in-ShortBuffer.is c.fields-in-ShortBuffer.ensures (search rules) (search rules) (search rules) refl
