-- Locks: a nonzero base of an open write is its row's head, seen by its writer and locked for it, and nothing else is locked. Every effect
-- of a call keeps it.
use Rattle.std.proofs.Math.Bool.{true}
use Rattle.std.specs.Prelude.{◌&&◌, not, ◌≢◌, ◌≡◌, ℕ, ◌<◌, ◌+◌, length, set, get_or}
use mathlib.Core.List.{List, [], ◌∷◌, ◌++◌}
use Rattle.std.proofs.Math.Option.{Option}
use Rattle.std.proofs.Common.{ap, ◌∙◌, sym, arith, get_or-set_same, get_or-set_other}
use Rattle.std.proofs.Math.Path.{refl, subst}
use Rattle.std.proofs.Math.Dec.{eqb}
use borrow.Author.Tests.{eq-eqb, ne_eqb, eqb-true}
use Rattle.kinds.specs.declared.Version.{Version}
use Rattle.words.specs.Lists.{fold, nonzero}
use Rattle.kinds.specs.Versions.{empty_version, with_next, with_lock, with_xmax, new_version}
use Rattle.words.specs.Slots.{Slot, Write, write, Rec}
use Rattle.kinds.specs.Visible.{visible, creator_visible}
use Rattle.rules.specs.Reachable.{bases_of, All}
use Rattle.rules.proofs.Theory.Cases.{by_eq, by_bool, and_true}
use Rattle.rules.specs.Theory.SlotLaws.{with_write}
use Rattle.rules.specs.Theory.View.{View, empty_slot, upd}
use Rattle.rules.proofs.Theory.View.{upd_same, upd_other}
use Rattle.rules.specs.Theory.Effects.{slot_v, with_vers, give_v, give_all_v, publish_v, publish_all_v, put_slot, unlock_v, lock_v, unlock_one_v, prepare_v}
use Rattle.rules.specs.Theory.Counting.{cnt}
use Rattle.rules.proofs.Theory.Counting.{cnt_tail, cnt_head, cnt_other}
use Rattle.rules.specs.Theory.Inv.{vers, Ver, Ghost, Hist, Inv, Entries}
use Rattle.rules.proofs.Theory.Inv.{all_map}
use Rattle.rules.proofs.Theory.Places.{free_alone, spelled_first, head_among}
use Rattle.rules.proofs.Theory.SlotSteps.{open_in}
use Rattle.rules.proofs.Theory.Publish.{part_same, part_off, part_on}
use Rattle.rules.specs.Theory.CommitView.{Tested}
use Rattle.rules.specs.Theory.Locks.{Part, part_of}

-- the base of w is its row's head, locked for slot t's id, and t sees it
pub record HeldFor (st : View) (t : Slot) (w : Write) : Type 0 where
  pub headed : st.heads w.row ≡ w.base
  pub flag : (st.vers w.base).locked ≢ 0
  pub owner : (st.vers w.base).owner.0 ≡ t.id
  pub seen : visible t (st.vers w.base) ≡ true

abbrev pub Holds : View → Slot → Write → Type 0
Holds st t w = w.base ≢ 0 → HeldFor st t w

-- c is a base of an open slot
pub record Based (st : View) (c : ℕ) : Type 0 where
  pub slot : ℕ
  pub taken : (slot_v st slot).id ≢ 0
  pub among : cnt c (bases_of (slot_v st slot).writes) ≢ 0

pub record Locks (n : ℕ) (st : View) : Type 0 where
  pub held : (i : ℕ) → (slot_v st i).id ≢ 0 → All (Holds st (slot_v st i)) (slot_v st i).writes
  pub only : (c : ℕ) → c ≢ 0 → c < n → (st.vers c).locked ≢ 0 → Based st c

abbrev flag_of : Version → ℕ
flag_of v = v.locked

abbrev owner_of : Version → ℕ
owner_of v = v.owner.0

part_seen : (t : Slot) (v u : Version) → part_of v ≡ part_of u → visible t v ≡ visible t u
unfolding visible
part_seen t v u e =
    ap (λ (p : Part). creator_visible t p.xmin && not (nonzero p.xmax && creator_visible t p.xmax)) e

-- where these of a base, and the head of its row, stay, it is held as before
held_same : (st st' : View) (t : Slot) (w : Write) → st'.heads w.row ≡ st.heads w.row → part_of (st'.vers w.base) ≡ part_of (st.vers w.base) → HeldFor st t w → HeldFor st' t w
held_same st st' t w eh e a = record {
  headed = eh ∙ a.headed;
  flag = rw (ap (λ (p : Part). p.flag) e) a.flag;
  owner = ap (λ (p : Part). p.owner) e ∙ a.owner;
  seen = part_seen t (st'.vers w.base) (st.vers w.base) e ∙ a.seen;
}

-- a slot with another write set and other records holds as before
abbrev refilled : Slot → List Write → List Rec → Slot
refilled t ws rs = record { id = t.id; low = t.low; top = t.top; active = t.active; writes = ws; recs = rs }

pub held_refilled : (st : View) (t : Slot) (ws : List Write) (rs : List Rec) (w : Write) → Holds st t w → Holds st (refilled t ws rs) w
unfolding visible creator_visible
held_refilled st t ws rs w h nz = let a = h nz in record { headed = a.headed; flag = a.flag; owner = a.owner; seen = a.seen }

-- ---- versions change, and nothing that a holder looks at
pub locks_same : (n : ℕ) (st : View) (f : ℕ → Version) → ((c : ℕ) → part_of (f c) ≡ part_of (st.vers c)) → Locks n st → Locks n (with_vers st f)
locks_same n st f e k = record {
  held = λ i op. all_map _ _ (slot_v st i).writes (λ w a nz. held_same st (with_vers st f) (slot_v st i) w refl (e w.base) (a nz)) (k.held i op);
  only = λ c nz lt l. let b = k.only c nz lt (rw (ap (λ (p : Part). p.flag) (e c)) at l) in record { slot = b.slot; taken = b.taken; among = b.among };
}

-- ---- slot i changes
module _ (n : ℕ) (st : View) (i : ℕ) (s : Slot) (k' : ℕ) (lt : i < length st.slots) where
  abbrev st₁ : View
  st₁ = record { vers = st.vers; links = st.links; heads = st.heads; free = st.free; clock = k'; slots = set st.slots i s }

  slot_at : slot_v st₁ i ≡ s
  slot_at = get_or-set_same st.slots i s empty_slot lt

  slot_off : (j : ℕ) → j ≢ i → slot_v st₁ j ≡ slot_v st j
  slot_off j ne = get_or-set_other st.slots i j s empty_slot ne

  -- what slot i holds now, and what it held
  pub locks_put : (s.id ≢ 0 → All (Holds st s) s.writes)
      → ((c : ℕ) → c ≢ 0 → c < n → (st.vers c).locked ≢ 0 → (slot_v st i).id ≢ 0 → cnt c (bases_of (slot_v st i).writes) ≢ 0 → (s.id ≢ 0) × (cnt c (bases_of s.writes) ≢ 0))
      → Locks n st → Locks n st₁
  locks_put mine still k = record {
    held = λ j oj. by_eq j i
        (λ q. rw (q, slot_at) (all_map _ _ s.writes (λ w a nz. held_same st st₁ s w refl refl (a nz)) (mine (rw (q, slot_at) at oj))))
        (λ q. rw (slot_off j q) (all_map _ _ (slot_v st j).writes (λ w a nz. held_same st st₁ (slot_v st j) w refl refl (a nz)) (k.held j (rw (slot_off j q) at oj))));
    only = λ c nz cn l.
        let b = k.only c nz cn l in
        by_eq b.slot i
        (λ q.
        let a = still c nz cn l (rw q at b.taken) (rw q at b.among) in
        record { slot = i; taken = rw slot_at a.0; among = rw slot_at a.1 })
        (λ q. record { slot = b.slot; taken = rw (slot_off b.slot q) b.taken; among = rw (slot_off b.slot q) b.among });
  }

-- ---- cells that are nobody's base are given back
module _ (n : ℕ) where
  locks_give : (st : View) (c : ℕ) → ((i : ℕ) → (slot_v st i).id ≢ 0 → All (λ w. w.base ≢ 0 → w.base ≢ c) (slot_v st i).writes) → Locks n st → Locks n (give_v c st)
  locks_give st c off k = record {
    held = λ i op. both (slot_v st i) (slot_v st i).writes (off i op) (k.held i op);
    only = λ d nz dn l. by_eq d c
        (λ q. absurd (l (rw (q, upd_same st.vers c empty_version))))
        (λ q. let b = k.only d nz dn (rw (upd_other st.vers c d empty_version q) at l) in record { slot = b.slot; taken = b.taken; among = b.among });
  }
    where
      both : (t : Slot) (ws : List Write) → All (λ w. w.base ≢ 0 → w.base ≢ c) ws → All (Holds st t) ws → All (Holds (give_v c st) t) ws
      both t [] a b = tt
      both t (w ∷ l) a b =
          (λ nz. let e = upd_other st.vers c w.base empty_version (a.0 nz) in held_same st (give_v c st) t w refl (ap part_of e) (b.0 nz), both t l a.1 b.1)

  pub locks_give_all : (l : List ℕ) (st : View) → ((i : ℕ) → (slot_v st i).id ≢ 0 → All (λ w. w.base ≢ 0 → cnt w.base l ≡ 0) (slot_v st i).writes) → Locks n st → Locks n (give_all_v l st)
  unfolding fold
  locks_give_all [] st off k = k
  locks_give_all (c ∷ l) st off k =
      locks_give_all l (give_v c st) (λ i op. all_map _ _ (slot_v st i).writes (λ w a nz. cnt_tail w.base c l (a nz)) (off i op))
      (locks_give st c (λ i op. all_map _ _ (slot_v st i).writes (λ w a nz. cnt_head w.base c l (a nz)) (off i op)) k)

-- ---- what a commit and an abort do to flags and owners
module _ (id : ℕ) where
  publish_flag : (w : Write) (st : View) (c : ℕ) → c ≢ w.base → part_of ((publish_v id w st).vers c) ≡ part_of (st.vers c)
  publish_flag w st c ne = by_eq w.base 0
      (λ e. rw (eq-eqb w.base 0 e) (part_same part_of st.vers w.new (with_next (st.vers w.new) w.base) refl c))
      (λ e. rw (ne_eqb w.base 0 e)
      (let v = with_lock (with_xmax (st.vers w.base) id) 0 0 in
      let f = upd st.vers w.base v in
      part_same part_of f w.new (with_next (f w.new) w.base) refl c ∙ part_off part_of st.vers w.base v c ne))

  publish_base : (w : Write) (st : View) → w.base ≢ 0 → ((publish_v id w st).vers w.base).locked ≡ 0
  publish_base w st e = rw (ne_eqb w.base 0 e)
      (let v = with_lock (with_xmax (st.vers w.base) id) 0 0 in
      let f = upd st.vers w.base v in
      part_same flag_of f w.new (with_next (f w.new) w.base) refl w.base ∙ part_on flag_of st.vers w.base v)

  -- a flag that is down stays down
  publish_down : (w : Write) (st : View) (c : ℕ) → c ≢ 0 → (st.vers c).locked ≡ 0 → ((publish_v id w st).vers c).locked ≡ 0
  publish_down w st c nz z = by_eq c w.base (λ q. subst (λ (x : ℕ). ((publish_v id w st).vers x).locked ≡ 0) (sym q) (publish_base w st (λ e. nz (q ∙ e)))) (λ q. ap (λ (p : Part). p.flag) (publish_flag w st c q) ∙ z)

  all_down : (ws : List Write) (st : View) (c : ℕ) → c ≢ 0 → (st.vers c).locked ≡ 0 → ((publish_all_v id ws st).vers c).locked ≡ 0
  unfolding fold
  all_down [] st c nz z = z
  all_down (w ∷ l) st c nz z = all_down l (publish_v id w st) c nz (publish_down w st c nz z)

  all_bases : (ws : List Write) (st : View) (c : ℕ) → c ≢ 0 → cnt c (bases_of ws) ≢ 0 → ((publish_all_v id ws st).vers c).locked ≡ 0
  unfolding fold cnt
  all_bases [] st c nz m = absurd (m refl)
  all_bases (w ∷ l) st c nz m = by_eq c w.base
      (λ q. all_down l (publish_v id w st) c nz (subst (λ (x : ℕ). ((publish_v id w st).vers x).locked ≡ 0) (sym q) (publish_base w st (λ e. nz (q ∙ e)))))
      (λ q. all_bases l (publish_v id w st) c nz (λ z. m (cnt_other c w.base (bases_of l) q ∙ z)))

  all_flag : (ws : List Write) (st : View) (c : ℕ) → cnt c (bases_of ws) ≡ 0 → part_of ((publish_all_v id ws st).vers c) ≡ part_of (st.vers c)
  unfolding fold
  all_flag [] st c m = refl
  all_flag (w ∷ l) st c m = all_flag l (publish_v id w st) c (cnt_tail c w.base (bases_of l) m) ∙ publish_flag w st c (cnt_head c w.base (bases_of l) m)

  all_heads : (ws : List Write) (st : View) (r : ℕ) → All (λ w. w.row ≢ r) ws → (publish_all_v id ws st).heads r ≡ st.heads r
  unfolding fold
  all_heads [] st r a = refl
  all_heads (w ∷ l) st r a = all_heads l (publish_v id w st) r a.1 ∙ upd_other st.heads w.row r w.new (λ e. a.0 (sym e))

  pub all_slots : (ws : List Write) (st : View) → (publish_all_v id ws st).slots ≡ st.slots
  unfolding fold
  all_slots [] st = refl
  all_slots (w ∷ l) st = all_slots l (publish_v id w st)

-- ---- commit
-- a base held for another is not among the bases held for id, and its row is not among their rows
apart_bases : (st : View) (u u' : Slot) (w' : Write) → u.id ≢ u'.id → w'.base ≢ 0 → HeldFor st u' w' → (ws : List Write) → All (Holds st u) ws → Tested st.heads ws
    → (cnt w'.base (bases_of ws) ≡ 0) × All (λ w. w.row ≢ w'.row) ws
unfolding cnt
apart_bases st u u' w' ne nz a [] h t = (refl, tt)
apart_bases st u u' w' ne nz a (w ∷ l) h t =
    let r = apart_bases st u u' w' ne nz a l h.1 t.1 in
    let off : w'.base ≢ w.base = λ e. ne (sym (h.0 (λ z. nz (e ∙ z))).owner ∙ ap (λ (c : ℕ). (st.vers c).owner.0) (sym e) ∙ a.owner) in
    (cnt_other w'.base w.base (bases_of l) off ∙ r.0, (λ e. off (sym a.headed ∙ ap st.heads (sym e) ∙ t.0), r.1))

module _ (n : ℕ) (st : View) (i : ℕ) (k : Locks n st) (op : (slot_v st i).id ≢ 0) (differ : (j : ℕ) → j ≢ i → (slot_v st j).id ≢ (slot_v st i).id) (ts : Tested st.heads (slot_v st i).writes) where
  abbrev ws : List Write
  ws = (slot_v st i).writes

  abbrev id : ℕ
  id = (slot_v st i).id

  abbrev st' : View
  st' = publish_all_v id ws (put_slot st i empty_slot)

  this_slot : slot_v st' i ≡ empty_slot
  this_slot = ap (λ (ss : List Slot). get_or ss i empty_slot) (all_slots id ws (put_slot st i empty_slot)) ∙ get_or-set_same st.slots i empty_slot empty_slot (open_in st.slots i op)

  elsewhere : (j : ℕ) → j ≢ i → slot_v st' j ≡ slot_v st j
  elsewhere j ne = ap (λ (ss : List Slot). get_or ss j empty_slot) (all_slots id ws (put_slot st i empty_slot)) ∙ get_or-set_other st.slots i j empty_slot empty_slot ne

  kept : (j : ℕ) → j ≢ i → (w : Write) → Holds st (slot_v st j) w → Holds st' (slot_v st j) w
  kept j ne w h nz =
      let a = h nz in
      let q = apart_bases st (slot_v st i) (slot_v st j) w (λ e. differ j ne (sym e)) nz a ws (k.held i op) ts in
      let f = all_flag id ws (put_slot st i empty_slot) w.base q.0 in
      held_same st st' (slot_v st j) w (all_heads id ws (put_slot st i empty_slot) w.row q.1) f a

  pub locks_commit : Locks n st'
  locks_commit = record {
    held = λ j oj. by_eq j i (λ q. absurd (oj (rw (q, this_slot)))) (λ q. rw (elsewhere j q) (all_map _ _ (slot_v st j).writes (kept j q) (k.held j (rw (elsewhere j q) at oj))));
    only = λ c nz cn l. by_eq (cnt c (bases_of ws)) 0
        (λ z.
        let b = k.only c nz cn (rw (ap (λ (p : Part). p.flag) (all_flag id ws (put_slot st i empty_slot) c z)) at l) in
        by_eq b.slot i
        (λ q. absurd (b.among (subst (λ (x : ℕ). cnt c (bases_of (slot_v st x).writes) ≡ 0) (sym q) z)))
        (λ q. record { slot = b.slot; taken = rw (elsewhere b.slot q) b.taken; among = rw (elsewhere b.slot q) b.among }))
        (λ m. absurd (l (all_bases id ws (put_slot st i empty_slot) c nz m)));
  }

-- ---- abort
module _ (id : ℕ) (real : id ≢ 0) where
  -- a lock of another id stays; a lock falls or stays; a base of this id is unlocked
  unlock_other : (ws : List Write) (f : ℕ → Version) (c : ℕ) → (f c).owner.0 ≢ id → unlock_v id ws f c ≡ f c
  unfolding fold
  unlock_other [] f c ne = refl
  unlock_other (w ∷ l) f c ne =
      let e : unlock_one_v id w f c ≡ f c = by_bool (nonzero w.base && eqb (f w.base).owner.0 id)
      (λ t. rw t (upd_other f w.base c _ (λ q. ne (subst (λ (x : ℕ). (f x).owner.0 ≡ id) (sym q) (eqb-true _ _ (and_true (nonzero w.base) _ t).1)))))
      (λ t. rw t) in
      unlock_other l (unlock_one_v id w f) c (rw e ne) ∙ e

  one_down : (w : Write) (f : ℕ → Version) (c : ℕ) → (f c).locked ≡ 0 → (unlock_one_v id w f c).locked ≡ 0
  one_down w f c z = by_bool (nonzero w.base && eqb (f w.base).owner.0 id)
      (λ t. rw t (by_eq c w.base (λ q. rw (q, upd_same f w.base (with_lock (f w.base) 0 0))) (λ q. rw (upd_other f w.base c (with_lock (f w.base) 0 0) q) z)))
      (λ t. rw t z)

  unlock_down : (ws : List Write) (f : ℕ → Version) (c : ℕ) → (f c).locked ≡ 0 → (unlock_v id ws f c).locked ≡ 0
  unfolding fold
  unlock_down [] f c z = z
  unlock_down (w ∷ l) f c z = unlock_down l (unlock_one_v id w f) c (one_down w f c z)

  unlock_base_lem : (ws : List Write) (f : ℕ → Version) (c : ℕ) → c ≢ 0 → (f c).owner.0 ≡ id → cnt c (bases_of ws) ≢ 0 → (unlock_v id ws f c).locked ≡ 0
  unfolding fold cnt
  unlock_base_lem [] f c nz e m = absurd (m refl)
  unlock_base_lem (w ∷ l) f c nz e m = by_eq c w.base
      (λ q.
      let t : (nonzero w.base && eqb (f w.base).owner.0 id) ≡ true = rw (sym q, ne_eqb c 0 nz, eq-eqb (f c).owner.0 id e) in
      unlock_down l (unlock_one_v id w f) c (rw (t, q, upd_same f w.base (with_lock (f w.base) 0 0))))
      (λ q.
      let s : unlock_one_v id w f c ≡ f c = by_bool (nonzero w.base && eqb (f w.base).owner.0 id) (λ t. rw t (upd_other f w.base c _ q)) (λ t. rw t) in
      unlock_base_lem l (unlock_one_v id w f) c nz (rw s e) (λ z. m (cnt_other c w.base (bases_of l) q ∙ z)))

module _ (n : ℕ) (st : View) (i : ℕ) (k : Locks n st) (op : (slot_v st i).id ≢ 0) (differ : (j : ℕ) → j ≢ i → (slot_v st j).id ≢ (slot_v st i).id) where
  abbrev mine : List Write
  mine = (slot_v st i).writes

  abbrev me : ℕ
  me = (slot_v st i).id

  abbrev st'' : View
  st'' = put_slot (with_vers st (unlock_v me mine st.vers)) i empty_slot

  ended_slot : slot_v st'' i ≡ empty_slot
  ended_slot = get_or-set_same st.slots i empty_slot empty_slot (open_in st.slots i op)

  other_slot : (j : ℕ) → j ≢ i → slot_v st'' j ≡ slot_v st j
  other_slot j ne = get_or-set_other st.slots i j empty_slot empty_slot ne

  stays : (j : ℕ) → j ≢ i → (w : Write) → Holds st (slot_v st j) w → Holds st'' (slot_v st j) w
  stays j ne w h nz =
      let a = h nz in
      let e = unlock_other me op mine st.vers w.base (λ q. differ j ne (sym a.owner ∙ q)) in
      held_same st st'' (slot_v st j) w refl (ap part_of e) a

  -- the held base of an entry
  base_owner : (c : ℕ) → c ≢ 0 → (ws : List Write) → All (Holds st (slot_v st i)) ws → cnt c (bases_of ws) ≢ 0 → (st.vers c).owner.0 ≡ me
  unfolding cnt
  base_owner c nz [] a m = absurd (m refl)
  base_owner c nz (w ∷ l) a m = by_eq c w.base
      (λ q. subst (λ (x : ℕ). (st.vers x).owner.0 ≡ me) (sym q) (a.0 (λ e. nz (q ∙ e))).owner)
      (λ q. base_owner c nz l a.1 (λ z. m (cnt_other c w.base (bases_of l) q ∙ z)))

  pub locks_drop : Locks n st''
  locks_drop = record {
    held = λ j oj. by_eq j i (λ q. absurd (oj (rw (q, ended_slot)))) (λ q. rw (other_slot j q) (all_map _ _ (slot_v st j).writes (stays j q) (k.held j (rw (other_slot j q) at oj))));
    only = λ c nz cn l.
        let b = k.only c nz cn (λ z. l (unlock_down me op mine st.vers c z)) in
        by_eq b.slot i
        (λ q.
        let m : cnt c (bases_of mine) ≢ 0 = rw q at b.among in
        absurd (l (unlock_base_lem me op mine st.vers c nz (base_owner c nz mine (k.held i op) m) m)))
        (λ q. record { slot = b.slot; taken = rw (other_slot b.slot q) b.taken; among = rw (other_slot b.slot q) b.among });
  }

-- ---- write: the head is locked for this id, a free cell is prepared
bases_snoc : (c : ℕ) (ws : List Write) (w : Write) → cnt c (bases_of (ws ++ (w ∷ []))) ≡ cnt c (bases_of ws) + cnt c (w.base ∷ [])
unfolding cnt
bases_snoc c [] w = omega arith
bases_snoc c (u ∷ l) w = omega (arith, bases_snoc c l w)

all_snoc : {A : Type 0} (P : A → Type 0) (l : List A) (a : A) → All P l → P a → All P (l ++ (a ∷ []))
all_snoc P [] a h p = (p, tt)
all_snoc P (b ∷ l) a h p = (h.0, all_snoc P l a h.1 p)

module _ (R n : ℕ) (st : View) (g : Ghost) (h : Hist) (i row : ℕ) (v : Option ℕ) (iv : Inv R n st g h []) (k : Locks n st) (op : (slot_v st i).id ≢ 0) (in_r : row < R)
    (room : st.free ≢ 0) (mineOr : st.heads row ≢ 0 → (st.vers (st.heads row)).locked ≢ 0 → (st.vers (st.heads row)).owner.0 ≡ (slot_v st i).id)
    (sees : st.heads row ≢ 0 → visible (slot_v st i) (st.vers (st.heads row)) ≡ true) (differ : (j : ℕ) → j ≢ i → (slot_v st j).id ≢ (slot_v st i).id) where
  abbrev b : ℕ
  b = st.heads row

  abbrev mid : ℕ → Version
  mid = lock_v b (slot_v st i).id st.vers

  abbrev made : View
  made = prepare_v i (slot_v st i).id row v st

  mid_off : (c : ℕ) → c ≢ b → mid c ≡ st.vers c
  mid_off c ne = by_bool (eqb b 0) (λ e. rw e) (λ e. rw e (upd_other st.vers b c _ ne))

  mid_on : b ≢ 0 → mid b ≡ with_lock (st.vers b) 1 (slot_v st i).id
  mid_on nz = rw (ne_eqb b 0 nz) (upd_same st.vers b _)

  made_off : (c : ℕ) → c ≢ st.free → made.vers c ≡ mid c
  made_off c ne = upd_other mid st.free c _ ne

  -- no head of a row is the free cell
  head_free : (r : ℕ) → r < R → st.heads r ≢ 0 → st.heads r ≢ st.free
  head_free r lt nz e =
      let a = free_alone R n st g h st.free iv (spelled_first st.links st.free g.fl iv.frees room) in
      head_among R n st g h [] r iv lt nz (subst (λ (x : ℕ). cnt x (get_or g.rows r []) ≡ 0) (sym e) (a.2 r))

  abbrev w₀ : Write
  w₀ = write row b st.free

  -- a lock is nothing that a reader looks at
  lock_seen : (t : Slot) (u : Version) (x y : ℕ) → visible t (with_lock u x y) ≡ visible t u
  unfolding visible
  lock_seen t u x y = refl

  new_held : Holds made (slot_v st i) w₀
  new_held nz =
      let e = made_off b (head_free row in_r nz) ∙ mid_on nz in
      record {
        headed = refl;
        flag = λ z. omega (arith, sym (ap flag_of e) ∙ z);
        owner = ap owner_of e;
        seen = ap (visible (slot_v st i)) e ∙ lock_seen (slot_v st i) (st.vers b) 1 (slot_v st i).id ∙ sees nz;
      }

  -- an entry of any slot: its base is not the free cell; where it is this row's head it is locked for its id still
  old_held : (j : ℕ) → (slot_v st j).id ≢ 0 → (w : Write) → w.row < R → Holds st (slot_v st j) w → Holds made (slot_v st j) w
  old_held j oj w lt hw nz =
      let a = hw nz in
      let off : w.base ≢ st.free = λ e. head_free w.row lt (λ z. nz (sym a.headed ∙ z)) (a.headed ∙ e) in
      by_eq w.base b
      (λ q.
      let nb : b ≢ 0 = λ z. nz (q ∙ z) in
      let e = made_off b (λ z. off (q ∙ z)) ∙ mid_on nb in
      let same : (slot_v st j).id ≡ (slot_v st i).id = sym a.owner ∙ ap (λ (c : ℕ). (st.vers c).owner.0) q ∙ mineOr nb (λ z. a.flag (ap (λ (c : ℕ). (st.vers c).locked) q ∙ z)) in
      record {
        headed = a.headed;
        flag = λ z. omega (arith, sym (ap flag_of e) ∙ subst (λ (c : ℕ). (made.vers c).locked ≡ 0) q z);
        owner = subst (λ (c : ℕ). (made.vers c).owner.0 ≡ (slot_v st j).id) (sym q) (ap owner_of e ∙ sym same);
        seen = subst (λ (c : ℕ). visible (slot_v st j) (made.vers c) ≡ true) (sym q)
            (ap (visible (slot_v st j)) e ∙ lock_seen (slot_v st j) (st.vers b) 1 (slot_v st i).id ∙ subst (λ (c : ℕ). visible (slot_v st j) (st.vers c) ≡ true) q a.seen);
      })
      (λ q. let e = made_off w.base off ∙ mid_off w.base q in held_same st made (slot_v st j) w refl (ap part_of e) a)

  in_range : (j : ℕ) (f : ℕ → Ver) (t : ℕ) (ws : List Write) → (slot_v st j).id ≢ 0 → Entries f R t ws → All (Holds st (slot_v st j)) ws → All (Holds made (slot_v st j)) ws
  in_range j f t [] oj e a = tt
  in_range j f t (w ∷ l) oj e a = (old_held j oj w e.0 a.0, in_range j f t l oj e.4 a.1)

  this_at : slot_v made i ≡ with_write (slot_v st i) w₀
  this_at = get_or-set_same st.slots i _ empty_slot (open_in st.slots i op)

  others_at : (j : ℕ) → j ≢ i → slot_v made j ≡ slot_v st j
  others_at j ne = get_or-set_other st.slots i j _ empty_slot ne

  all_held : (j : ℕ) → (slot_v st j).id ≢ 0 → All (Holds made (slot_v st j)) (slot_v st j).writes
  all_held j oj = in_range j (vers st) (slot_v st j).id (slot_v st j).writes oj (iv.opens j oj).entries (k.held j oj)

  -- an old base is one still
  still_based : (c : ℕ) → Based st c → Based made c
  still_based c a = by_eq a.slot i
      (λ q. record { slot = i; taken = rw this_at op; among = rw (this_at, bases_snoc c (slot_v st i).writes w₀) (λ z. (rw q at a.among) (omega arith)) })
      (λ q. record { slot = a.slot; taken = rw (others_at a.slot q) a.taken; among = rw (others_at a.slot q) a.among })

  pub locks_write : Locks n made
  locks_write = record {
    held = λ j oj. by_eq j i
        (λ q. rw (q, this_at) (all_map _ _ ((slot_v st i).writes ++ (w₀ ∷ [])) (held_refilled made (slot_v st i) ((slot_v st i).writes ++ (w₀ ∷ [])) (slot_v st i).recs) (all_snoc _ (slot_v st i).writes w₀ (all_held i op) new_held)))
        (λ q. rw (others_at j q) (all_held j (rw (others_at j q) at oj)));
    only = λ c nz cn l. by_eq c st.free
        (λ q. absurd (l (rw (q, upd_same mid st.free (new_version v (slot_v st i).id 0)))))
        (λ q. by_eq c b
        (λ y. record { slot = i; taken = rw this_at op; among = rw (this_at, bases_snoc c (slot_v st i).writes w₀) (λ z. cnt_head c b [] (omega arith) y) })
        (λ y. still_based c (k.only c nz cn (rw (made_off c q, mid_off c y) at l))));
  }

-- the held bases are heads: where no head is in a list, no held base is
pub held_off : (R n : ℕ) (st : View) (g : Ghost) (h : Hist) → Inv R n st g h [] → Locks n st → (l : List ℕ)
    → ((r : ℕ) → r < R → st.heads r ≢ 0 → cnt (st.heads r) l ≡ 0) → (j : ℕ) → (slot_v st j).id ≢ 0 → All (λ w. w.base ≢ 0 → cnt w.base l ≡ 0) (slot_v st j).writes
held_off R n st g h iv k l off j oj = go (vers st) (slot_v st j).id (slot_v st j).writes (iv.opens j oj).entries (k.held j oj)
  where
    go : (f : ℕ → Ver) (t : ℕ) (ws : List Write) → Entries f R t ws → All (Holds st (slot_v st j)) ws → All (λ w. w.base ≢ 0 → cnt w.base l ≡ 0) ws
    go f t [] e a = tt
    go f t (w ∷ ws) e a = (λ nz. let q = (a.0 nz).headed in subst (λ (c : ℕ). cnt c l ≡ 0) q (off w.row e.0 (rw q nz)), go f t ws e.4 a.1)
