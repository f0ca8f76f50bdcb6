use mathlib.Core.Path.{refl}
use Rattle.perform.specs.Laws.{acted_as, store_acted, begin_acted, commit_acted, abort_acted, other_acted}
use Rattle.perform.proofs.act.Goals as goal

pub returns-in-Store : goal.returns-in-Store
returns-in-Store c = acted_as c.in-Store.is (store_acted _ _ _ _ _ _ _ c.create.ensures)

pub returns-in-Begin : goal.returns-in-Begin
returns-in-Begin c = acted_as c.in-Begin.is (begin_acted _ _ _ _ _ c.begin.ensures)

pub returns-in-Read : goal.returns-in-Read
returns-in-Read c = acted_as c.in-Read.is (c.look.ensures _ _)

pub returns-in-Write : goal.returns-in-Write
returns-in-Write c = acted_as c.in-Write.is (c.put.ensures _ _)

pub returns-in-Delete : goal.returns-in-Delete
returns-in-Delete c = acted_as c.in-Delete.is (c.put-in-Delete.ensures _ _)

pub returns-in-Commit : goal.returns-in-Commit
returns-in-Commit c = acted_as c.in-Commit.is (commit_acted _ _ _ _ _ _ _ c.commit.ensures)

pub returns-in-Abort : goal.returns-in-Abort
returns-in-Abort c = acted_as c.in-Abort.is (abort_acted _ _ _ _ _ _ _ c.abort.ensures)

pub returns-in-Vacuum : goal.returns-in-Vacuum
returns-in-Vacuum c = acted_as c.in-Vacuum.is c.sweep.ensures

pub returns-in-Find : goal.returns-in-Find
returns-in-Find c = acted_as c.in-Find.is (c.find.ensures _)

pub returns-in-Other : goal.returns-in-Other
returns-in-Other c = acted_as c.in-Other.is (other_acted _ _ _ _ refl)
