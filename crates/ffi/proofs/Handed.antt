-- What a call promises of its answer, handed on to what is read of the answer laid flat.
-- Assumes nothing.
use mathlib.Core.Path.{◌≡◌, sym, ap, ◌∙◌}
use Rattle.ffi.specs.Reading.{Laid}

pub handed : {R A : Type 0} {read : R → A} {lay : A → R} {promised : A → Type 0} {c : A} {r : R} → (read r ≡ c) × (r ≡ lay c) → promised c
    → Laid read lay promised r
handed {lay = lay} (again, laid) h = record { promise = rw again h; whole = laid ∙ ap lay (sym again) }
