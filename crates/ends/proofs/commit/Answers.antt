use mathlib.Core.Path.{sym, ap, ◌∙◌}
use Rattle.std.proofs.lemmas.Result.{err_from_is_err_and}
use Rattle.rules.specs.Verdicts.{verdict}
use Rattle.validate.specs.Arenas as L
use Rattle.validate.proofs.CommitLaws.{commit_whole, fine_writes}
use Rattle.publish.specs.PublishLaws as Q
use Rattle.publish.specs.PublishLaws.{publish_whole}
use Rattle.ends.specs.CommitRest.{commit_refused, commit_done}
use Rattle.ends.proofs.commit.Goals as goal

pub publish_all-requires : goal.publish_all-requires
publish_all-requires c = fine_writes (L.lent c.args.meta.now c.args.rows.now c.args.cells.now) (Q.lent c.args.rows.now c.args.cells.now) c.requires.store.fits.heads c.requires.store.fits.cells _ _ (sym c.in_ok-check_commit.ensures)

pub returns-in_err-check_commit : goal.returns-in_err-check_commit
returns-in_err-check_commit c =
    let p = err_from_is_err_and c.from_residual.result c.from_residual.ensures.1 in
    rw (p.1, p.2) (commit_refused _ _ _ _ _ (ap verdict (commit_whole _ _ _ _ _ _) ∙ sym c.in_err-check_commit.ensures))

pub returns : goal.returns
returns c = commit_done _ _ _ _ _ _ (ap verdict (commit_whole _ _ _ _ _ _) ∙ sym c.in_ok-check_commit.ensures) (publish_whole _ _ _ _ _ _ _ _ c.publish_all.ensures) c.empty.ensures
