-- Every effect keeps the lengths of the arenas and the saved sizes.
use Rattle.std.specs.Prelude.{cond, Bool, true, false, ◌&&◌, List, [], ◌∷◌, ◌≡◌, refl, ℕ, ◌<◌, eqb, length, get_or}
use Rattle.std.proofs.Math.Option.{Option}
use Rattle.std.proofs.Common.{◌∙◌, subst, sym, arith, length-set, get_or-set_other}
use Rattle.words.specs.Sizes.{Sizes, FREE, ROWS, CELLS, WRITES}
use Rattle.words.specs.Lists.{fold, nonzero}
use Rattle.kinds.specs.Versions.{empty_version, version_at}
use Rattle.words.specs.Slots.{Write, emptied, write}
use Rattle.rules.specs.Memory.{Mem, free, head_at, with_slot, words_at}
use Rattle.rules.specs.Write.{lock_base, prepared}
use Rattle.rules.specs.Commit.{mark_base, publish, publish_all}
use Rattle.rules.specs.Abort.{give_back, unlock_base}
use Rattle.rules.specs.Vacuum.{relink}
use Rattle.rules.proofs.Theory.SlotLaws.{emptied_ok, ok_write}
use Rattle.rules.proofs.Theory.CellLaws.{length_put}
use Rattle.rules.specs.Theory.Shape.{Shaped, SlotsOk}
use Rattle.rules.proofs.Theory.Shape.{slots_ok}
use Rattle.rules.specs.Theory.Same.{Same}

pub same_refl : {z : Sizes} (m : Mem z) → Same m m
same_refl m = record { meta = refl; rows = refl; cells = refl; sizer = refl; sizen = refl }

pub same_then : {z : Sizes} (a b c : Mem z) → Same a b → Same b c → Same a c
same_then a b c p q = record { meta = q.meta ∙ p.meta; rows = q.rows ∙ p.rows; cells = q.cells ∙ p.cells; sizer = q.sizer ∙ p.sizer; sizen = q.sizen ∙ p.sizen }

pub same_shaped : {z : Sizes} (m k : Mem z) → Same m k → Shaped m → SlotsOk z k.slots → Shaped k
same_shaped m k e sh ok = record { roomy = sh.roomy; some_rows = rw e.sizer sh.some_rows; most_rows = rw e.sizer sh.most_rows; some_cells = rw e.sizen sh.some_cells; most_cells = rw e.sizen sh.most_cells; metas = rw e.meta sh.metas; rows = rw (e.rows, e.sizer) sh.rows; cells = rw (e.cells, e.sizen) sh.cells; slots = ok }

length_cond : (t : Bool) (a b : List (List ℕ)) (k : ℕ) → length a ≡ k → length b ≡ k → length (cond t a b) ≡ k
length_cond true a b k p q = p
length_cond false a b k p q = q

same_mark : (id b : ℕ) (cs : List (List ℕ)) → length (mark_base id b cs) ≡ length cs
unfolding mark_base
same_mark id b cs = length_cond (eqb b 0) _ _ _ refl (length_put cs b _ _)

same_lock : (cs : List (List ℕ)) (b id : ℕ) → length (lock_base cs b id) ≡ length cs
unfolding lock_base
same_lock cs b id = length_cond (eqb b 0) _ _ _ refl (length_put cs b _ _)

pub same_publish_all : {z : Sizes} (id : ℕ) (ws : List Write) (m : Mem z) → Same m (publish_all id ws m)
unfolding fold publish
same_publish_all id [] m = same_refl m
same_publish_all id (w ∷ l) m = same_then m (publish id w m) _
    (record { meta = refl; rows = length-set m.rows w.row w.new; cells = length_put _ w.new _ _ ∙ same_mark id w.base m.cells; sizer = refl; sizen = refl })
    (same_publish_all id l (publish id w m))

pub slots_publish_all : {z : Sizes} (id : ℕ) (ws : List Write) (m : Mem z) → (publish_all id ws m).slots ≡ m.slots
unfolding fold publish
slots_publish_all id [] m = refl
slots_publish_all id (w ∷ l) m = slots_publish_all id l (publish id w m)

pub same_give_all : {z : Sizes} (l : List ℕ) (m : Mem z) → Same m (fold give_back l m)
unfolding fold give_back
same_give_all [] m = same_refl m
same_give_all (c ∷ l) m = same_then m (give_back c m) _
    (record { meta = length-set m.meta FREE c; rows = refl; cells = length_put m.cells c empty_version (free m); sizer = get_or-set_other m.meta FREE ROWS c 0 (omega arith); sizen = get_or-set_other m.meta FREE CELLS c 0 (omega arith) })
    (same_give_all l (give_back c m))

pub slots_give_all : {z : Sizes} (l : List ℕ) (m : Mem z) → (fold give_back l m).slots ≡ m.slots
unfolding fold give_back
slots_give_all [] m = refl
slots_give_all (c ∷ l) m = slots_give_all l (give_back c m)

pub same_unlock : (id : ℕ) (ws : List Write) (cs : List (List ℕ)) → length (fold (unlock_base id) ws cs) ≡ length cs
unfolding fold unlock_base
same_unlock id [] cs = refl
same_unlock id (w ∷ l) cs = same_unlock id l _ ∙ length_cond (nonzero w.base && eqb (version_at cs w.base).owner.0 id) _ _ _ (length_put cs w.base _ _) refl

pub same_relink : (l : List ℕ) (cs : List (List ℕ)) → length (relink l cs) ≡ length cs
unfolding relink
same_relink [] cs = refl
same_relink (c ∷ []) cs = length_put cs c _ _
same_relink (c ∷ d ∷ l) cs = same_relink (d ∷ l) _ ∙ length_put cs c _ _

pub same_prepared : {z : Sizes} (m : Mem z) (s id row : ℕ) (v : Option ℕ) → Same m (prepared m s id row v)
unfolding prepared
same_prepared m s id row v = record {
  meta = length-set m.meta FREE _;
  rows = refl;
  cells = length_put _ (free m) _ 0 ∙ same_lock m.cells (head_at m row) id;
  sizer = get_or-set_other m.meta FREE ROWS _ 0 (omega arith);
  sizen = get_or-set_other m.meta FREE CELLS _ 0 (omega arith);
}

-- an emptied slot, on any memory of the same sizes and slots
pub shaped_close : {z : Sizes} (m k : Mem z) (s : ℕ) → s < z.slots → Shaped m → Same m k → k.slots ≡ m.slots → Shaped (with_slot k s (emptied z))
shaped_close {z} m k s lt sh e q =
    same_shaped m (with_slot k s (emptied z)) (record { meta = e.meta; rows = e.rows; cells = e.cells; sizer = e.sizer; sizen = e.sizen }) sh
    (slots_ok k.slots s (emptied z) (subst (SlotsOk z) (sym q) sh.slots) lt (emptied_ok z sh.roomy))

-- a write that adds an entry
pub shaped_prepared : {z : Sizes} (m : Mem z) (s id row : ℕ) (v : Option ℕ) → Shaped m → s < z.slots → get_or (words_at m s) (WRITES z) 0 < z.writes → Shaped (prepared m s id row v)
unfolding prepared
shaped_prepared {z} m s id row v sh lt few =
    same_shaped m (prepared m s id row v) (same_prepared m s id row v) sh
    (slots_ok m.slots s _ sh.slots lt (ok_write (words_at m s) (sh.slots.each s lt) (write row (head_at m row) (free m)) few))
