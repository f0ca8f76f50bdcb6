use Rattle.std.proofs.Common.{rules, Ok, Err}
use Rattle.access.specs.ReadRest.{read_bad_row, read_blocked, read_known, read_fresh}
use Rattle.reads.specs.Sights.{told, fresh_room}
use Rattle.kinds.specs.Versions.{version_at}
use Rattle.words.specs.Sizes.{CELLS}
use lib.ListN.{get_or, set}
use mathlib.Core.List.{[]}
use mathlib.Core.Path.{◌≡◌, sym, ap, ◌∙◌}
use Rattle.access.proofs.read.Goals as goal

pub returns-then-meta-row : goal.returns-then-meta-row
returns-then-meta-row c = read_bad_row _ _ _ c.if-meta-row.true

pub add_record-requires : goal.add_record-requires
add_record-requires c = fresh_room (get_or c.args.meta.now CELLS 0) (version_at c.args.cells.now) (get_or c.args.rows.now c.args.row 0) (get_or c.args.slots.now c.args.slot []) c.args.row _ _ _ (ap (told c.args.row) (sym (c.in_ok-c.was ∙ ap Ok c.in-Fresh.is)) ∙ c.read_row.ensures)

pub returns-in_err-c : goal.returns-in_err-c
returns-in_err-c c = let r : c.from_residual.result ≡ Err c.in_err-c.field-0.0 = search rules in rw r (read_blocked _ _ _ c.if-meta-row.false _ _ (ap (told c.args.row) (sym c.in_err-c.was) ∙ c.read_row.ensures))

pub returns-in-Known : goal.returns-in-Known
returns-in-Known c = read_known _ _ _ c.if-meta-row.false _ _ c.answer_at.ensures (ap (told c.args.row) (sym (c.in_ok-c.was ∙ ap Ok c.in-Known.is)) ∙ c.read_row.ensures)

pub returns-in-Fresh : goal.returns-in-Fresh
returns-in-Fresh c = read_fresh _ _ _ c.if-meta-row.false _ _ _ _ c.answer_at-in-Fresh.ensures (ap (set c.args.slots.now c.args.slot) c.add_record.ensures) (ap (told c.args.row) (sym (c.in_ok-c.was ∙ ap Ok c.in-Fresh.is)) ∙ c.read_row.ensures)
