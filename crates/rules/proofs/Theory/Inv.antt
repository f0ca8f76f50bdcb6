-- The invariant of the theory, over views. Ghost lists say which cells stand where, and one counting equation says that each cell from 1
-- on stands once in them all: so no cell is shared, none is lost, and 0 is nowhere. A snapshot is known by what it sees: ids below its xmin
-- are seen, ids of open slots and ids not yet drawn are not. Of each open slot and row, the first version of the chain that it sees says
-- what the history says it saw when it began. `pend` are the cells in hand between two steps of a call.
use Rattle.std.specs.Prelude.{◌≢◌, ◌≡◌, ℕ, get_or}
use mathlib.Core.List.{List, [], ◌∷◌}
use Rattle.std.proofs.Math.Option.{some, Option}
use Rattle.std.proofs.Math.Path.{refl}
use Rattle.std.proofs.Common.{subst, sym, ap, ◌∙◌}
use Rattle.kinds.specs.declared.Version.{Version}
use Rattle.words.specs.Slots.{Slot, Write, Rec}
use Rattle.kinds.specs.Visible.{visible}
use Rattle.rules.specs.Abort.{news}
use Rattle.rules.specs.History.{Val}
use Rattle.rules.specs.Reachable.{All}
use Rattle.rules.specs.Theory.View.{View, empty_slot}
use Rattle.rules.specs.Theory.Effects.{slot_v}
use Rattle.rules.specs.Theory.Counting.{cnt}
use Rattle.rules.proofs.Theory.Counting.{cnt_head, cnt_tail}
use Rattle.rules.specs.Theory.Inv.{Ver, ver_of, vers, vis, Spelled, pick, own_find, Ghost, Hist, in_slot, Settled, Top, Single, Entries, Recorded, Open}

-- the rule of paper 01 looks at no more
pub vis_is : (t : Slot) (v : Version) → visible t v ≡ vis t (ver_of v)
unfolding visible vis ver_of
vis_is t v = refl

pub spelled_frame : (f g : ℕ → ℕ) (n h : ℕ) (l : List ℕ) → ((c : ℕ) → c ≢ n → g c ≡ f c) → cnt n l ≡ 0 → Spelled f h l → Spelled g h l
spelled_frame f g n h [] same z s = s
spelled_frame f g n h (c ∷ l) same z s = (s.0, s.1, subst (λ (k : ℕ). Spelled g k l) (sym (same c (λ e. cnt_head n c l z (sym e)))) (spelled_frame f g n (f c) l same (cnt_tail n c l z) s.2))

pub pick_frame : (t : Slot) (f g : ℕ → Ver) (n : ℕ) (l : List ℕ) → ((c : ℕ) → c ≢ n → g c ≡ f c) → cnt n l ≡ 0 → pick t g l ≡ pick t f l
unfolding pick
pick_frame t f g n [] same z = refl
pick_frame t f g n (c ∷ l) same z = rw (same c (λ e. cnt_head n c l z (sym e)), pick_frame t f g n l same (cnt_tail n c l z))

pub all_map : {A : Type 0} (P Q : A → Type 0) (l : List A) → ((q : A) → P q → Q q) → All P l → All Q l
all_map P Q [] f a = tt
all_map P Q (q ∷ l) f a = (f q a.0, all_map P Q l f a.1)

-- ---- frames: versions that change at one cell only, which is not among those looked at
module _ (f g : ℕ → Ver) (n : ℕ) (same : (c : ℕ) → c ≢ n → g c ≡ f c) where
  -- a cell of a list that n is not in
  pub same_in : (l : List ℕ) → cnt n l ≡ 0 → (d : ℕ) → cnt d l ≢ 0 → g d ≡ f d
  same_in l z d nz = same d (λ e. nz (subst (λ (x : ℕ). cnt x l ≡ 0) (sym e) z))

  pub top_frame : (k : ℕ) (ss : List Slot) (l : List ℕ) (o : Option Val) → cnt n l ≡ 0 → Top f k ss l o → Top g k ss l o
  top_frame k ss [] o z t = t
  top_frame k ss (c ∷ l) o z t =
      let e = same c (λ e. cnt_head n c l z (sym e)) in (
        ap (λ (x : Ver). x.xmax) e ∙ t.0,
        subst (λ (x : Ver). Settled k ss x.xmin) (sym e) t.1,
        t.2 ∙ ap (λ (x : Ver). some x.val) (sym e),
        λ d nz. subst (λ (x : Ver). Settled k ss x.xmax) (sym (same_in l (cnt_tail n c l z) d nz)) (t.3 d nz),
      )

  pub single_frame : (t : Slot) (l : List ℕ) → cnt n l ≡ 0 → Single t f l → Single t g l
  single_frame t [] z s = tt
  single_frame t (c ∷ l) z s = (
    λ v d nz. ap (vis t) (same_in l (cnt_tail n c l z) d nz) ∙ s.0 (sym (ap (vis t) (same c (λ e. cnt_head n c l z (sym e)))) ∙ v) d nz,
    single_frame t l (cnt_tail n c l z) s.1,
  )

  pub own_frame : (ws : List Write) (r : ℕ) → cnt n (news ws) ≡ 0 → own_find g ws r ≡ own_find f ws r
  unfolding own_find
  own_frame [] r z = refl
  own_frame (w ∷ l) r z = rw (same w.new (λ e. cnt_head n w.new (news l) z (sym e)), own_frame l r (cnt_tail n w.new (news l) z))

  pub entries_frame : (R t : ℕ) (ws : List Write) → cnt n (news ws) ≡ 0 → Entries f R t ws → Entries g R t ws
  entries_frame R t [] z e = tt
  entries_frame R t (w ∷ l) z e =
      rw (same w.new (λ q. cnt_head n w.new (news l) z (sym q)), own_frame l w.row (cnt_tail n w.new (news l) z))
      (e.0, e.1, e.2, e.3, entries_frame R t l (cnt_tail n w.new (news l) z) e.4)

  pub recorded_frame : (rows : List (List ℕ)) (s : Slot) → ((r : ℕ) → cnt n (get_or rows r []) ≡ 0) → (q : Rec) → Recorded f rows s q → Recorded g rows s q
  recorded_frame rows s z q a =
      let e = same_in (get_or rows q.row []) (z q.row) q.cell a.placed in
      record { placed = a.placed; minned = rw e a.minned; seen = rw e a.seen }

-- an open slot, where one cell changes that stands in no chain and not in its write set
pub open_frame : (R : ℕ) (st st' : View) (g g' : Ghost) (h : Hist) (c i : ℕ) → st'.clock ≡ st.clock → st'.slots ≡ st.slots → g'.rows ≡ g.rows
    → ((d : ℕ) → d ≢ c → vers st' d ≡ vers st d) → ((r : ℕ) → cnt c (get_or g.rows r []) ≡ 0) → in_slot c (slot_v st i) ≡ 0
    → Open R st g h i → Open R st' g' h i
open_frame R st st' g g' h c i ec es er vs ur us o =
    let s = slot_v st i in
    let t : slot_v st' i ≡ s = ap (λ (ss : List Slot). get_or ss i empty_slot) es in
    record {
      snap = rw (ec, es) o.snap;
      taken = rw (ec, t) o.taken;
      reads = λ r. rw (t, er) (pick_frame s (vers st) (vers st') c _ vs (ur r) ∙ o.reads r);
      single = λ r. rw (t, er) (single_frame (vers st) (vers st') c vs s _ (ur r) (o.single r));
      owns = λ r. rw t (own_frame (vers st) (vers st') c vs s.writes r us ∙ o.owns r);
      entries = rw t (entries_frame (vers st) (vers st') c vs R s.id s.writes us o.entries);
      records = rw (t, er) (all_map _ _ s.recs (recorded_frame (vers st) (vers st') c vs g.rows s ur) o.records);
      apart = rw t o.apart;
    }
