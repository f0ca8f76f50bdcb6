use Rattle.std.proofs.Common.{rules, Err}
use Rattle.kinds.specs.Results.{judged}
use Rattle.words.specs.Slots.{slot_of}
use Rattle.rules.specs.Write.{head_tests}
use Rattle.rules.specs.Memory.{mem}
use Rattle.words.specs.Sizes.{base}
use lib.ListN.{set}
use mathlib.Core.Option.{none}
use Rattle.access.specs.WriteRest.{first_head, first_room, first_done, head_in, room_facts}
use mathlib.Core.Path.{◌≡◌, sym, ap, ◌∙◌}
use native.Mathlib.Omega.{arith}
use Rattle.access.proofs.write_first.Goals as goal

pub returns-in_err-check_head : goal.returns-in_err-check_head
unfolding head_tests slot_of
returns-in_err-check_head c = let r : c.from_residual.result ≡ Err c.in_err-check_head.field-0.0 = search rules in rw r (first_head _ _ _ _ _ _ _ (sym c.check_head.ensures ∙ ap judged c.in_err-check_head.was))

pub returns-in_err-check_room : goal.returns-in_err-check_room
unfolding head_tests slot_of
returns-in_err-check_room c = let r : c.from_residual-in_err-check_room.result ≡ Err c.in_err-check_room.field-0.0 = search rules in rw r (first_room _ _ _ _ _ _ _ (sym c.check_head.ensures ∙ ap judged c.in_ok-check_head.was) (sym c.check_room.ensures ∙ ap judged c.in_err-check_room.was))

pub prepare-requires : goal.prepare-requires
unfolding head_tests slot_of
prepare-requires c =
    let h = head_in (mem {z = base} c.args.meta.now c.args.rows.now c.args.cells.now c.args.slots.now) c.args.slot c.args.id.0 c.args.row none (sym c.check_head.ensures ∙ ap judged c.in_ok-check_head.was) in
    let r = room_facts (mem {z = base} c.args.meta.now c.args.rows.now c.args.cells.now c.args.slots.now) c.args.slot c.args.id.0 c.args.row none (sym c.check_room.ensures ∙ ap judged c.in_ok-check_room.was) in
    let f = c.requires.slot_fine.store.fits in
    record { meta_words_in_bounds = f.metas; head_in_bounds = omega (arith, f.cells); has_cell = record { low = omega (arith, r.1); high = omega (arith, r.2, f.cells) } }

pub add_entry-requires : goal.add_entry-requires
add_entry-requires c = (room_facts (mem {z = base} c.args.meta.now c.args.rows.now c.args.cells.now c.args.slots.now) c.args.slot c.args.id.0 c.args.row none (sym c.check_room.ensures ∙ ap judged c.in_ok-check_room.was)).0

pub returns : goal.returns
unfolding head_tests slot_of
returns c = first_done _ _ _ _ _ _ _ _ (sym c.check_head.ensures ∙ ap judged c.in_ok-check_head.was) (sym c.check_room.ensures ∙ ap judged c.in_ok-check_room.was) c.prepare.ensures.meta_after c.prepare.ensures.cells_after (ap (set c.args.slots.now c.args.slot) c.add_entry.ensures)
