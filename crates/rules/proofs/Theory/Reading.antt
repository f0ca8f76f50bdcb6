-- What a read of one row comes to, against the history: the own write, the first visible version of the chain, or a refusal.
use Rattle.std.specs.Prelude.{true, false, cond, ◌≢◌, ℕ, ◌<◌, ◌≤◌, suc, zero, eqb, leb, length, take, get_or}
use mathlib.Core.List.{List, ◌∷◌, []}
use Rattle.std.proofs.Math.Option.{Option, none, some}
use Rattle.std.proofs.Math.Path.{◌≡◌, refl, sym}
use Rattle.std.proofs.Common.{◌∙◌, ap, arith}
use Rattle.std.proofs.Math.Nat.{le_of_suc-le-suc}
use borrow.Author.Tests.{eqb-true, ne_eqb, leb-true, leb-false, le-leb}
use Rattle.kinds.specs.declared.Version.{Version}
use Rattle.words.specs.Sizes.{Sizes}
use Rattle.rules.specs.Numbers.{chain_too_long, read_set_full}
use Rattle.words.specs.Lists.{first, or_else, last, nonzero}
use Rattle.words.specs.Slots.{Slot, rec, Write, Rec}
use Rattle.kinds.specs.Visible.{visible}
use Rattle.rules.specs.Chain.{Look, found, nothing, too_long, look, look_of}
use Rattle.rules.specs.Read.{sees, own, answer_at, recorded, Sight, blocked, sight_of, own_sight, read_row}
use Rattle.rules.specs.Abort.{news}
use Rattle.rules.specs.History.{answer_of, Val}
use Rattle.rules.proofs.Theory.Cases.{by_bool}
use Rattle.rules.specs.Theory.View.{View}
use Rattle.rules.specs.Theory.Effects.{slot_v}
use Rattle.rules.specs.Theory.Counting.{cnt}
use Rattle.rules.proofs.Theory.Counting.{cnt_tail, cnt_head}
use Rattle.rules.specs.Theory.Inv.{pick, Ver, vis, vers, ver_of, Spelled, own_find, Entries, Ghost, Hist, Inv}
use Rattle.rules.proofs.Theory.Places.{chain_cell, own_cell}
use Rattle.rules.specs.Theory.Publish.{vers_f, nexts_f}
use Rattle.rules.specs.Theory.Chains.{rest_of, AllBelow}
use Rattle.rules.proofs.Theory.Chains.{chain_spelled, row_below}
use Rattle.rules.specs.Theory.Reading.{Own, Says}

-- the cell of the first version that t sees
abbrev pub pick_cell : Slot → (ℕ → Ver) → List ℕ → Option ℕ
pick_cell t f l = first (λ c. vis t (f c)) l

-- it is what the rule finds
pub pick_visible : (t : Slot) (f : ℕ → Version) (l : List ℕ) → first (λ c. visible t (f c)) l ≡ pick_cell t (vers_f f) l
unfolding visible vis ver_of
pick_visible t f l = refl

-- no visible version among the first k of a longer list
abbrev pub Beyond : ℕ → Slot → (ℕ → Ver) → List ℕ → Type 0
Beyond k t f l = (k < length l) × (pick_cell t f (take k l) ≡ none)

-- the cell seen is in the list, is seen, and has the value that the list shows
pub record Seen (t : Slot) (f : ℕ → Ver) (l : List ℕ) (c : ℕ) : Type 0 where
  pub among : cnt c l ≢ 0
  pub sees : vis t (f c) ≡ true
  pub shows : pick t f l ≡ some (f c).val

-- what a walk of k versions comes to
pub data Looks (k : ℕ) (t : Slot) (f : ℕ → Ver) (l : List ℕ) : Look → Type 0 where
  at_cell : (c : ℕ) → pick_cell t f (take k l) ≡ some c → Seen t f l c → Looks k t f l (found c)
  at_end_lem : length l ≤ k → pick t f l ≡ none → Looks k t f l nothing
  too_far : Beyond k t f l → Looks k t f l too_long

looks_on : (k : ℕ) (t : Slot) (f : ℕ → Ver) (c : ℕ) (l : List ℕ) (x : Look) → vis t (f c) ≡ false → Looks k t f l x → Looks (suc k) t f (c ∷ l) x
unfolding first pick cnt
looks_on k t f c l _ e (at_cell d p s) = at_cell d (rw e p) (record { among = λ z. s.among (cnt_tail d c l z); sees = s.sees; shows = rw e s.shows })
looks_on k t f c l _ e (at_end_lem le p) = at_end_lem (omega arith) (rw e p)
looks_on k t f c l _ e (too_far b) = too_far (omega (arith, b.0), rw e b.1)

look_first : (k : ℕ) (t : Slot) (f : ℕ → Ver) (l : List ℕ) → Looks k t f l (look_of (pick_cell t f (take k l)) (rest_of k l))
unfolding first rest_of pick cnt
look_first zero t f [] = at_end_lem (omega arith) refl
look_first zero t f (c ∷ l) = too_far (omega arith, refl)
look_first (suc k) t f [] = at_end_lem (omega arith) refl
look_first (suc k) t f (c ∷ l) = by_bool (vis t (f c))
    (λ e. rw e (at_cell c (rw e) (record { among = λ z. cnt_head c c l z refl; sees = e; shows = rw e })))
    (λ e. rw e (looks_on k t f c l _ e (look_first k t f l)))

pub look_pick : (n k : ℕ) (t : Slot) (f : ℕ → Version) (h : ℕ) (l : List ℕ) → AllBelow (suc n) l → Spelled (nexts_f f) h l → Looks k t (vers_f f) l (look n t f k h)
unfolding look
look_pick n k t f h l b s = rw (chain_spelled n k f h l b s, pick_visible t f (take k l)) (look_first k t (vers_f f) l)

module _ (f : ℕ → Ver) (r : ℕ) where
  own_cons : (u : Write) (l : List Write) → own_find f l u.row ≡ none → (o : Option Write) → Own f l r o → Own f (u ∷ l) r (or_else o (cond (eqb u.row r) (some u) none))
  unfolding own_find
  own_cons u l once none a = by_bool (eqb u.row r) (λ e. rw e (rw e, λ z. cnt_head u.new u.new (news l) z refl)) (λ e. rw e (rw e a))
  own_cons u l once (some v) a = by_bool (eqb u.row r)
      (λ e. let z : some (f v.new).val ≡ none = sym a.0 ∙ rw (eqb-true u.row r e) at once in let q : ◌≡◌ {A = ℕ} 0 1 = cc in absurd (omega arith))
      (λ e. (rw e a.0, λ z. a.1 (cnt_tail v.new u.new (news l) z)))

  pub own_is : (R t : ℕ) (ws : List Write) → Entries f R t ws → Own f ws r (own ws r)
  unfolding own last own_find
  own_is R t [] e = refl
  own_is R t (u ∷ l) e = own_cons u l e.3 (own l r) (own_is R t l e.4)

-- ---- what a read may answer
answer_val : (f : ℕ → Version) (c : ℕ) → c ≢ 0 → answer_at f c ≡ answer_of (some (ver_of (f c)).val)
unfolding answer_at ver_of
answer_val f c nz = by_bool (nonzero (f c).keyed) (λ e. rw (ne_eqb c 0 nz, e)) (λ e. rw (ne_eqb c 0 nz, e))

pub none_some : {A : Type 0} (o : Option A) (a : A) → o ≡ none → o ≡ some a → ⊥
none_some o a p q = let z : ◌≡◌ {A = ℕ} 0 1 = cc in omega arith

pub says_answer : (st : View) (c : ℕ) (o : Option Val) → Says st c o → answer_at st.vers c ≡ answer_of o
says_answer st c o a = answer_val st.vers c a.0 ∙ ap answer_of (sym a.1)

-- a list that ends within k and shows nothing has nothing among its first k
ends_none : (k : ℕ) (t : Slot) (f : ℕ → Ver) (l : List ℕ) → length l ≤ k → pick t f l ≡ none → pick_cell t f (take k l) ≡ none
unfolding first pick
ends_none zero t f [] le p = refl
ends_none zero t f (c ∷ l) le p = absurd (omega arith)
ends_none (suc k) t f [] le p = refl
ends_none (suc k) t f (c ∷ l) le p = by_bool (vis t (f c))
    (λ e. absurd (none_some _ (f c).val p (rw e)))
    (λ e. rw e (ends_none k t f l (le_of_suc-le-suc le) (rw e at p)))

-- the read set is full and a new record is needed
abbrev pub Full : Sizes → Slot → (ℕ → Ver) → List ℕ → List Rec → Type 0
Full z t f l rs = (c : ℕ) × (pick_cell t f (take z.walk l) ≡ some c) × (recorded c rs ≡ false) × (z.reads ≤ length rs)

-- a read of row r by slot i, where the records rs stand: what it comes to, each case exactly when
pub data Right (z : Sizes) (st : View) (g : Ghost) (h : Hist) (i r : ℕ) (rs : List Rec) : Sight → Type 0 where
  own_write_lem : (v : Val) → h.own i r ≡ some v → (c : ℕ) → Says st c (some v) → Right z st g h i r rs (sees c [])
  no_version_lem : h.own i r ≡ none → h.view i r ≡ none → length (get_or g.rows r []) ≤ z.walk → pick_cell (slot_v st i) (vers st) (take z.walk (get_or g.rows r [])) ≡ none
      → Right z st g h i r rs (sees 0 [])
  old_version : h.own i r ≡ none → (c : ℕ) → pick_cell (slot_v st i) (vers st) (take z.walk (get_or g.rows r [])) ≡ some c → cnt c (get_or g.rows r []) ≢ 0
      → Says st c (h.view i r) → recorded c rs ≡ true → Right z st g h i r rs (sees c [])
  new_version_lem : h.own i r ≡ none → (c : ℕ) → pick_cell (slot_v st i) (vers st) (take z.walk (get_or g.rows r [])) ≡ some c → cnt c (get_or g.rows r []) ≢ 0
      → Says st c (h.view i r) → recorded c rs ≡ false → length rs < z.reads → Right z st g h i r rs (sees c (rec r c (st.vers c).xmin.0 ∷ []))
  long : h.own i r ≡ none → Beyond z.walk (slot_v st i) (vers st) (get_or g.rows r []) → Right z st g h i r rs (blocked chain_too_long r)
  full : h.own i r ≡ none → Full z (slot_v st i) (vers st) (get_or g.rows r []) rs → Right z st g h i r rs (blocked read_set_full r)

module _ (z : Sizes) (R n : ℕ) (st : View) (g : Ghost) (h : Hist) (i r : ℕ) (iv : Inv R (suc n) st g h []) (op : (slot_v st i).id ≢ 0) (in_r : r < R) (rs : List Rec) where
  abbrev row : List ℕ
  row = get_or g.rows r []

  abbrev t : Slot
  t = slot_v st i

  walked : h.own i r ≡ none → (k : Look) → Looks z.walk t (vers st) row k → Right z st g h i r rs (sight_of z n st.vers (st.heads r) t rs r k)
  unfolding sight_of
  walked e _ (too_far b) = long e b
  walked e _ (at_end_lem le p) = no_version_lem e (sym ((iv.opens i op).reads r) ∙ p) le (ends_none z.walk t (vers st) row le p)
  walked e _ (at_cell c p s) =
      let nz = (chain_cell R (suc n) st g h [] c r iv s.among).real in
      let ok : Says st c (h.view i r) = (nz, sym ((iv.opens i op).reads r) ∙ s.shows) in
      by_bool (recorded c rs)
      (λ y. rw y (old_version e c p s.among ok y))
      (λ y. rw y (by_bool (leb z.reads (length rs)) (λ f. rw f (full e (c, p, y, leb-true _ _ f))) (λ f. rw f (new_version_lem e c p s.among ok y (leb-false z.reads (length rs) f)))))

  own_right : (o : Option Write) → Own (vers st) t.writes r o → Right z st g h i r rs (own_sight z n st.vers (st.heads r) t rs r o)
  unfolding own_sight
  own_right none a = walked (sym ((iv.opens i op).owns r) ∙ a) _ (look_pick n z.walk t st.vers (st.heads r) row (row_below R n st g h r iv) (iv.chain r in_r))
  own_right (some w) a =
      let v = own_cell R (suc n) st g h i w.new iv a.1 in
      let le : w.new ≤ n = le_of_suc-le-suc v.1 in
      rw (ne_eqb w.new 0 v.0, le-leb w.new n le) (own_write_lem (vers st w.new).val (sym ((iv.opens i op).owns r) ∙ a.0) w.new (v.0, refl))

  pub read_right : Right z st g h i r rs (read_row z n st.vers (st.heads r) t rs r)
  unfolding read_row
  read_right = own_right (own t.writes r) (own_is (vers st) r R t.id t.writes (iv.opens i op).entries)
