use mathlib.Core.Path.{sym, ap, ◌∙◌}
use mathlib.Core.List.{List, []}
use Prim.Native.Nat.{ℕ}
use lib.ListN.{get_or}
use native.Mathlib.Omega.{arith}
use Rattle.std.proofs.lemmas.Result.{err_from_is_err_and}
use Rattle.words.specs.Sizes.{base}
use Rattle.words.specs.Slots.{slot_of}
use Rattle.words.specs.Lists.{fold}
use Rattle.rules.specs.Memory.{mem}
use Rattle.rules.specs.Abort.{news, give_back}
use Rattle.undo.specs.UndoLaws.{lent, give_whole, fine_bases, fine_news}
use Rattle.ends.specs.AbortRest.{abort_refused, abort_done}
use Rattle.ends.proofs.abort.Goals as goal

pub unlock_all-requires : goal.unlock_all-requires
unlock_all-requires c = fine_bases (lent c.args.meta.now []) c.args.cells.now c.requires.store.fits.cells _ (sym c.in_ok-check_abort.ensures)

pub give_all-requires : goal.give_all-requires
give_all-requires c = record {
  meta_words_in_bounds = c.requires.store.fits.metas;
  all_cells = fine_news (lent c.args.meta.now []) c.unlock_all.new.cells (omega (arith, c.requires.store.fits.cells, c.unlock_all.auto.cells)) _ (sym c.in_ok-check_abort.ensures);
}

pub returns-in_err-check_abort : goal.returns-in_err-check_abort
returns-in_err-check_abort c =
    let p = err_from_is_err_and c.from_residual.result c.from_residual.ensures.1 in
    rw (p.1, p.2) (abort_refused _ _ _ _ _ (sym c.in_err-check_abort.ensures))

pub returns : goal.returns
returns c = abort_done _ _ _ _ _ _ (sym c.in_ok-check_abort.ensures) (give_whole _ _ _ _ _ _ _ c.give_all.ensures ∙ ap (λ (cs : List (List ℕ)). fold give_back (news (slot_of base (get_or c.args.slots.now c.args.slot [])).writes) (mem {z = base} c.args.meta.now c.args.rows.now cs c.args.slots.now)) c.unlock_all.ensures) c.empty.ensures
