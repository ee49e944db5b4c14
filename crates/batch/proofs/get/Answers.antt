use Rattle.batch.proofs.Asks.{first-refused}
use Rattle.batch.proofs.Getting.{get-refused, room-asked, get-room, got-nothing, got-runs}
use Rattle.batch.proofs.get.Goals as goal

pub returns-in_err-ask_batch : goal.returns-in_err-ask_batch
returns-in_err-ask_batch c =
    get-refused _ _ _ _ _ c.scan-at.ensures _ _ _ _ c.from_residual.ensures.1 (first-refused _ c.in_err-ask_batch.ensures)

pub returns-in_err-ask_both : goal.returns-in_err-ask_both
returns-in_err-ask_both c =
    get-refused _ _ _ _ _ c.scan-at.ensures _ _ _ _ c.from_residual-in_err-ask_both.ensures.1
    (room-asked _ _ _ _ _ c.scan-at.ensures c.part_at-found_ends.ensures c.part_at-found_values.ensures _ _ c.in_ok-ask_batch.ensures
    c.in_err-ask_both.ensures)

pub returns-then-at-keys : goal.returns-then-at-keys
returns-then-at-keys c =
    got-nothing _ _ _ _ _ c.scan-at.ensures c.part_at-found_ends.ensures c.part_at-found_values.ensures _ _ c.in_ok-ask_batch.ensures
    c.in_ok-ask_both.ensures c.if-at-keys.true

pub copy-requires : goal.copy-requires
copy-requires c =
    let a = c.args in
    (get-room _ _ _ _ _ c.scan-at.ensures c.part_at-found_ends.ensures c.part_at-found_values.ensures a.out_ends.now a.out_values.now
    c.in_ok-ask_batch.ensures c.in_ok-ask_both.ensures).0

pub copy-requires-2 : goal.copy-requires-2
copy-requires-2 c =
    let a = c.args in
    (get-room _ _ _ _ _ c.scan-at.ensures c.part_at-found_ends.ensures c.part_at-found_values.ensures a.out_ends.now a.out_values.now
    c.in_ok-ask_batch.ensures c.in_ok-ask_both.ensures).1

pub returns : goal.returns
returns c =
    got-runs _ _ _ _ _ c.scan-at.ensures c.part_at-found_ends.ensures c.part_at-found_values.ensures _ _ c.in_ok-ask_batch.ensures
    c.in_ok-ask_both.ensures c.if-at-keys.false c.copy.ensures c.copy-2.ensures
