-- A call's refusals as a table: lines in the paper's order, each a condition, its number and the value returned with it. The call
-- refuses with the number of the first line whose condition holds; a later line applies only where no earlier one does. What is
-- proved of a call is that it refuses exactly so, and changes nothing then. The conditions are propositions; that each test of the
-- definition decides its line's condition is shown test by test, and the rest of the proof is the same for every call.
use Rattle.std.specs.Prelude.{ℕ, ◌≤◌, ◌<◌, Bool, true, false, not, ◌&&◌, ◌||◌, ◌≡◌, refl, ◌≢◌, ◌↔◌, ◌⊎◌, eqb, ltb, leb}
use mathlib.Core.List.{List, [], ◌∷◌, ◌++◌, append-nil}
use Rattle.std.proofs.Common.{sym, ap, ◌∙◌, subst, inl, inr, ⊎_elim, arith, eqb-true, ltb-true, ltb-false, leb-true, leb-false}
use Rattle.std.proofs.lemmas.Bool.{eqb-false, not-true, not-false}
use Rattle.kinds.specs.ReadAnswer.{ReadAnswer}
use Rattle.kinds.specs.Answer.{Answer}
use Rattle.words.specs.Sizes.{Sizes}
use Rattle.words.specs.Lists.{nonzero, has}
use Rattle.rules.proofs.Theory.Cases.{by_bool, no_both}
use Rattle.rules.specs.Memory.{Mem}
use Rattle.rules.specs.Outcome.{Outcome, out, Test, guard, each, refuse}
use Rattle.rules.specs.Exactly.{Line, line, Refuses, NoneOf, each_of, In, All, Reflects, Says, Told, Exactly, is_refusal, under, Lacks}

-- a property of every member, said in other words
pub all_map : {A : Type 0} (P Q : A → Type 0) → ((a : A) → P a → Q a) → (l : List A) → All P l → All Q l
all_map P Q f [] h = tt
all_map P Q f (a ∷ l) h = (f a h.0, all_map P Q f l h.1)

pub holds_true : (b : Bool) {P : Type 0} → Reflects b P → P → b ≡ true
holds_true b r p = by_bool b (λ e. e) (λ e. absurd (r.no e p))

pub fails_false : (b : Bool) {P : Type 0} → Reflects b P → (P → ⊥) → b ≡ false
fails_false b r n = by_bool b (λ e. absurd (n (r.yes e))) (λ e. e)

pub is_equal : (a b : ℕ) → Reflects (eqb a b) (a ≡ b)
is_equal a b = record { yes = eqb-true a b; no = eqb-false a b }

pub is_less : (a b : ℕ) → Reflects (ltb a b) (a < b)
is_less a b = record { yes = ltb-true a b; no = λ e p. omega (arith, ltb-false a b e) }

pub is_most : (a b : ℕ) → Reflects (leb a b) (a ≤ b)
is_most a b = record { yes = leb-true a b; no = λ e p. omega (arith, leb-false a b e) }

pub is_not : (b : Bool) {P : Type 0} → Reflects b P → Reflects (not b) (P → ⊥)
is_not b r = record { yes = λ e. r.no (not-true b e); no = λ e n. n (r.yes (not-false b e)) }

pub is_nonzero : (a : ℕ) → Reflects (nonzero a) (a ≢ 0)
is_nonzero a = is_not (eqb a 0) (is_equal a 0)

pub is_both : (a b : Bool) {P Q : Type 0} → Reflects a P → Reflects b Q → Reflects (a && b) (P × Q)
is_both true b r s = record { yes = λ e. (r.yes refl, s.yes e); no = λ e p. s.no e p.1 }
is_both false b r s = record { yes = λ e. absurd (no_both false e refl); no = λ e p. r.no refl p.0 }

pub is_either : (a b : Bool) {P Q : Type 0} → Reflects a P → Reflects b Q → Reflects (a || b) (P ⊎ Q)
is_either true b r s = record { yes = λ e. inl (r.yes refl); no = λ e p. no_both true refl e }
is_either false b r s = record { yes = λ e. inr (s.yes e); no = λ e. ⊎_elim (r.no refl) (s.no e) }

pub is_in : (x : ℕ) (l : List ℕ) → Reflects (has x l) (In x l)
unfolding has
is_in x [] = record { yes = λ e. no_both false e refl; no = λ e p. p }
is_in x (y ∷ l) = is_either (eqb x y) (has x l) (is_equal x y) (is_in x l)

-- the same condition in other words
pub is_also : (b : Bool) {P Q : Type 0} → Reflects b P → (P → Q) → (Q → P) → Reflects b Q
is_also b r f g = record { yes = λ e. f (r.yes e); no = λ e q. r.no e (g q) }

pub says_append : (l l' : List Test) (q q' : List Line) → Says l q → Says l' q' → Says (l ++ l') (q ++ q')
says_append [] l' [] q' s s' = s'
says_append [] l' (p ∷ q) q' s s' = absurd s
says_append (t ∷ l) l' [] q' s s' = absurd s
says_append (t ∷ l) l' (p ∷ q) q' s s' = (s.0, s.1, s.2, says_append l l' q q' s.3 s')

pub says_each : {A : Type 0} (f : A → List Test) (g : A → List Line) → ((a : A) → Says (f a) (g a)) → (l : List A) → Says (each f l) (each_of g l)
unfolding each
says_each f g s [] = tt
says_each f g s (a ∷ l) = says_append (f a) (each f l) (g a) (each_of g l) (s a) (says_each f g s l)

pub one_refusal : {k x k' x' : ℕ} → Answer.Refused k x ≡ Answer.Refused k' x' → (k ≡ k') × (x ≡ x')
one_refusal e = (cc, cc)

pub one_refused_read : {k x k' x' : ℕ} → ReadAnswer.Refused k x ≡ ReadAnswer.Refused k' x' → (k ≡ k') × (x ≡ x')
one_refused_read e = (cc, cc)

abbrev pub in_answer : Told Answer
in_answer = record { tell = Answer.Refused; same = one_refusal }

abbrev pub in_read : Told ReadAnswer
in_read = record { tell = ReadAnswer.Refused; same = one_refused_read }

module _ {z : Sizes} {A B : Type 0} (T : Told A) (m : Mem z) where
  -- an outcome that is accepted
  pub exactly_done : (o : Outcome z A B) → ((k x : ℕ) → o.answer ≡ T.tell k x → ⊥) → Exactly T m o o []
  exactly_done o n = record { only = n; when = λ k x f. absurd f; otherwise = λ u. refl; decided = inl tt }

  -- a refusal for a condition that holds
  pub exactly_refused : (k x : ℕ) (P : Type 0) (rest : List Line) (done : Outcome z A B) → P → Exactly T m (out (T.tell k x) [] m) done (line P k x ∷ rest)
  exactly_refused k x P rest done p =
      record {
        only = λ k' x' e. inl (p, sym (T.same e).0, sym (T.same e).1);
        when = λ k' x'. ⊎_elim (λ h. rw (h.1, h.2)) (λ h. absurd (h.0 p));
        otherwise = λ n. absurd (n.0 p);
        decided = inr (k, x, inl (p, refl, refl));
      }

  -- a line whose condition fails
  pub exactly_skip : (P : Type 0) (k x : ℕ) (rest : List Line) (o done : Outcome z A B) → (P → ⊥) → Exactly T m o done rest → Exactly T m o done (line P k x ∷ rest)
  exactly_skip P k x rest o done n h =
      record {
        only = λ k' x' e. inr (n, h.only k' x' e);
        when = λ k' x'. ⊎_elim (λ q. absurd (n q.0)) (λ q. h.when k' x' q.1);
        otherwise = λ q. h.otherwise q.1;
        decided = ⊎_elim (λ q. inl (n, q)) (λ q. inr (q.0, q.1, inr (n, q.2))) h.decided;
      }

  pub exactly_guarded : (l : List Test) (q rest : List Line) (o done : Outcome z A B) → Says l q → Exactly T m o done rest → Exactly T m (guard (λ k x. out (T.tell k x) [] m) l o) done (q ++ rest)
  unfolding guard
  exactly_guarded [] [] rest o done s h = h
  exactly_guarded [] (p ∷ q) rest o done s h = absurd s
  exactly_guarded (t ∷ l) [] rest o done s h = absurd s
  exactly_guarded (t ∷ l) (p ∷ q) rest o done s h = by_bool t.fails
      (λ e. rw (e, s.1, s.2) (exactly_refused p.number p.value p.holds (q ++ rest) done (s.0.yes e)))
      (λ e. rw e (exactly_skip p.holds p.number p.value (q ++ rest) _ done (s.0.no e) (exactly_guarded l q rest o done s.3 h)))

-- a table gives one refusal, or none
pub refuses_one : (l : List Line) (k x k' x' : ℕ) → Refuses l k x → Refuses l k' x' → (k ≡ k') × (x ≡ x')
refuses_one [] k x k' x' r r' = absurd r
refuses_one (p ∷ l) k x k' x' (inl q) (inl q') = (q.1 ∙ sym q'.1, q.2 ∙ sym q'.2)
refuses_one (p ∷ l) k x k' x' (inl q) (inr q') = absurd (q'.0 q.0)
refuses_one (p ∷ l) k x k' x' (inr q) (inl q') = absurd (q.0 q'.0)
refuses_one (p ∷ l) k x k' x' (inr q) (inr q') = refuses_one l k x k' x' q.1 q'.1

pub none_refuses : (l : List Line) (k x : ℕ) → NoneOf l → Refuses l k x → ⊥
none_refuses [] k x n r = r
none_refuses (p ∷ l) k x n (inl q) = n.0 q.0
none_refuses (p ∷ l) k x n (inr q) = none_refuses l k x n.1 q.1

module _ {z : Sizes} {A B : Type 0} (T : Told A) (m : Mem z) where
  pub exactly_blocked : (k x : ℕ) (l : List Line) (done : Outcome z A B) → Refuses l k x → Exactly T m (out (T.tell k x) [] m) done l
  exactly_blocked k x l done r =
      record {
        only = λ k' x' e. rw (← (T.same e).0, ← (T.same e).1) r;
        when = λ k' x' r'. let e = refuses_one l k x k' x' r r' in rw (e.0, e.1);
        otherwise = λ n. absurd (none_refuses l k x n r);
        decided = inr (k, x, r);
      }

  pub exactly_accepted : (o : Outcome z A B) (l : List Line) → ((k x : ℕ) → o.answer ≡ T.tell k x → ⊥) → NoneOf l → Exactly T m o o l
  exactly_accepted o l a n = record { only = λ k x e. absurd (a k x e); when = λ k x r. absurd (none_refuses l k x n r); otherwise = λ u. refl; decided = inl n }

  -- lines of which none applies
  pub exactly_past : (a rest : List Line) (o done : Outcome z A B) → NoneOf a → Exactly T m o done rest → Exactly T m o done (a ++ rest)
  exactly_past [] rest o done n h = h
  exactly_past (p ∷ a) rest o done n h = exactly_skip T m p.holds p.number p.value (a ++ rest) o done n.0 (exactly_past a rest o done n.1 h)

pub not_refused : (a : Answer) → is_refusal a ≡ 0 → (k x : ℕ) → a ≡ Answer.Refused k x → ⊥
not_refused a e k x h =
    let q : is_refusal a ≡ 1 = ap is_refusal h in
    omega arith

pub exactly_answered : {z : Sizes} {B : Type 0} (m : Mem z) (o : Outcome z Answer B) → is_refusal o.answer ≡ 0 → Exactly in_answer m o o []
exactly_answered m o e = exactly_done in_answer m o (not_refused o.answer e)

-- a call that is its tests and an accepted outcome
pub exactly_tested : {z : Sizes} {B : Type 0} (m : Mem z) (l : List Test) (q : List Line) (o : Outcome z Answer B) → is_refusal o.answer ≡ 0 → Says l q → Exactly in_answer m (guard (refuse m) l o) o q
exactly_tested m l q o e s = subst (Exactly in_answer m (guard (refuse m) l o) o) (append-nil q) (exactly_guarded in_answer m l q [] o o s (exactly_answered m o e))

pub guard_append : {A : Type 0} (r : ℕ → ℕ → A) (l l' : List Test) (a : A) → guard r (l ++ l') a ≡ guard r l (guard r l' a)
unfolding guard
guard_append r [] l' a = refl
guard_append r (t ∷ l) l' a = rw (guard_append r l l' a)

-- an answer that is no refusal: no line applies
pub accepted_none : {z : Sizes} {A B : Type 0} (T : Told A) (m : Mem z) (o done : Outcome z A B) (l : List Line) → Exactly T m o done l → ((k x : ℕ) → o.answer ≡ T.tell k x → ⊥) → NoneOf l
accepted_none {z} {A} {B} T m o done l h n = ⊎_elim (λ y. y) (λ q. absurd (n q.0 q.1 (ap (λ (y : Outcome z A B). y.answer) (h.when q.0 q.1 q.2)))) h.decided

-- the answer tells k and x if and only if the table says so
pub refused_iff : {z : Sizes} {A B : Type 0} (T : Told A) (m : Mem z) (o done : Outcome z A B) (l : List Line) → Exactly T m o done l → (k x : ℕ) → (o.answer ≡ T.tell k x) ↔ Refuses l k x
refused_iff T m o done l h k x = (h.only k x, λ r. ap (λ (y : Outcome _ _ _). y.answer) (h.when k x r))

pub under_on : (P : Type 0) (l : List Line) (k x : ℕ) → P → Refuses l k x → Refuses (under P l) k x
under_on P [] k x h r = r
under_on P (p ∷ l) k x h (inl q) = inl ((h, q.0), q.1, q.2)
under_on P (p ∷ l) k x h (inr q) = inr (λ y. q.0 y.1, under_on P l k x h q.1)

pub on_under : (P : Type 0) (l : List Line) (k x : ℕ) → Refuses (under P l) k x → P × Refuses l k x
on_under P [] k x r = absurd r
on_under P (p ∷ l) k x (inl q) = (q.0.0, inl (q.0.1, q.1, q.2))
on_under P (p ∷ l) k x (inr q) =
    let i = on_under P l k x q.1 in
    (i.0, inr (λ y. q.0 (i.0, y), i.1))

-- under a condition: the condition, and the lines
pub refuses_under : (P : Type 0) (l : List Line) (k x : ℕ) → Refuses (under P l) k x ↔ (P × Refuses l k x)
refuses_under P l k x = (on_under P l k x, λ q. under_on P l k x q.0 q.1)

under_none : (P : Type 0) (l : List Line) → NoneOf l → NoneOf (under P l)
under_none P [] n = tt
under_none P (p ∷ l) n = (λ y. n.0 y.1, under_none P l n.1)

pub none_under : (P : Type 0) (l : List Line) → P → NoneOf (under P l) → NoneOf l
none_under P [] h n = tt
none_under P (p ∷ l) h n = (λ y. n.0 (h, y), none_under P l h n.1)

pub not_under : (P : Type 0) (l : List Line) → (P → ⊥) → NoneOf (under P l)
not_under P [] h = tt
not_under P (p ∷ l) h = (λ y. h y.0, not_under P l h)

module _ {z : Sizes} {A B : Type 0} (T : Told A) (m : Mem z) (o done : Outcome z A B) where
  pub exactly_under : (P : Type 0) (l : List Line) → P → Exactly T m o done l → Exactly T m o done (under P l)
  exactly_under P l p h =
      record {
        only = λ k x e. under_on P l k x p (h.only k x e);
        when = λ k x r. h.when k x (on_under P l k x r).1;
        otherwise = λ n. h.otherwise (none_under P l p n);
        decided = ⊎_elim (λ n. inl (under_none P l n)) (λ q. inr (q.0, q.1, under_on P l q.0 q.1 p q.2)) h.decided;
      }

pub lacks_append : (k : ℕ) (a b : List Line) → Lacks k a → Lacks k b → Lacks k (a ++ b)
lacks_append k [] b s s' = s'
lacks_append k (p ∷ a) b s s' = (s.0, lacks_append k a b s.1 s')

pub lacks_each : {A : Type 0} (k : ℕ) (g : A → List Line) → ((a : A) → Lacks k (g a)) → (l : List A) → Lacks k (each_of g l)
lacks_each k g s [] = tt
lacks_each k g s (a ∷ l) = lacks_append k (g a) (each_of g l) (s a) (lacks_each k g s l)

pub lacks_under : (k : ℕ) (P : Type 0) (l : List Line) → Lacks k l → Lacks k (under P l)
lacks_under k P [] s = tt
lacks_under k P (p ∷ l) s = (s.0, lacks_under k P l s.1)

pub lacks_refuses : (k x : ℕ) (a : List Line) → Lacks k a → Refuses a k x → ⊥
lacks_refuses k x [] s r = r
lacks_refuses k x (p ∷ a) s (inl q) = s.0 q.1
lacks_refuses k x (p ∷ a) s (inr q) = lacks_refuses k x a s.1 q.1

pub none_append : (a b : List Line) → NoneOf (a ++ b) ↔ (NoneOf a × NoneOf b)
none_append [] b = (λ n. (tt, n), λ n. n.1)
none_append (p ∷ a) b = (λ n. let r = (none_append a b).0 n.1 in ((n.0, r.0), r.1), λ n. (n.0.0, (none_append a b).1 (n.0.1, n.1)))

pub none_each : {A : Type 0} (g : A → List Line) (l : List A) → NoneOf (each_of g l) ↔ All (λ a. NoneOf (g a)) l
none_each g [] = (λ n. tt, λ n. tt)
none_each g (a ∷ l) = (λ n. let r = (none_append (g a) (each_of g l)).0 n in (r.0, (none_each g l).0 r.1), λ n. (none_append (g a) (each_of g l)).1 (n.0, (none_each g l).1 n.1))

module _ (k x : ℕ) where
  append_to : (a b : List Line) → Refuses (a ++ b) k x → Refuses a k x ⊎ (NoneOf a × Refuses b k x)
  append_to [] b r = inr (tt, r)
  append_to (p ∷ a) b (inl q) = inl (inl q)
  append_to (p ∷ a) b (inr q) = ⊎_elim (λ r. inl (inr (q.0, r))) (λ r. inr ((q.0, r.0), r.1)) (append_to a b q.1)

  append_from : (a b : List Line) → Refuses a k x ⊎ (NoneOf a × Refuses b k x) → Refuses (a ++ b) k x
  append_from [] b (inl f) = absurd f
  append_from [] b (inr q) = q.1
  append_from (p ∷ a) b (inl (inl q)) = inl q
  append_from (p ∷ a) b (inl (inr q)) = inr (q.0, append_from a b (inl q.1))
  append_from (p ∷ a) b (inr q) = inr (q.0.0, append_from a b (inr (q.0.1, q.1)))

  -- a refusal of two tables, one after the other: of the first; or of the second, and no line of the first applies
  pub refuses_append : (a b : List Line) → Refuses (a ++ b) k x ↔ (Refuses a k x ⊎ (NoneOf a × Refuses b k x))
  refuses_append a b = (append_to a b, append_from a b)

  -- a number that the first table lacks
  pub refuses_past : (a b : List Line) → Lacks k a → Refuses (a ++ b) k x ↔ (NoneOf a × Refuses b k x)
  refuses_past a b s = (λ r. ⊎_elim (λ f. absurd (lacks_refuses k x a s f)) (λ q. q) ((refuses_append a b).0 r), λ q. (refuses_append a b).1 (inr q))

  -- a number that the second table lacks
  pub refuses_before : (a b : List Line) → Lacks k b → Refuses (a ++ b) k x ↔ Refuses a k x
  refuses_before a b s = (λ r. ⊎_elim (λ q. q) (λ q. absurd (lacks_refuses k x b s q.1)) ((refuses_append a b).0 r), λ q. (refuses_append a b).1 (inl q))

  -- a refusal over the members of a list: the first member that refuses, and none before it does
  pub record FirstOf {A : Type 0} (g : A → List Line) (l : List A) : Type 0 where
    pub before : List A
    pub member : A
    pub after : List A
    pub parts : l ≡ before ++ member ∷ after
    pub fine : All (λ c. NoneOf (g c)) before
    pub refuses : Refuses (g member) k x

  each_to : {A : Type 0} (g : A → List Line) (l : List A) → Refuses (each_of g l) k x → FirstOf g l
  each_to g [] r = absurd r
  each_to {A} g (c ∷ l) r = ⊎_elim
      (λ q. record { before = []; member = c; after = l; parts = refl; fine = tt; refuses = q })
      (λ q.
      let i = each_to g l q.1 in
      record { before = c ∷ i.before; member = i.member; after = i.after; parts = ap (λ (y : List A). c ∷ y) i.parts; fine = (q.0, i.fine); refuses = i.refuses })
      (append_to (g c) (each_of g l) r)

  each_from : {A : Type 0} (g : A → List Line) (before : List A) (a : A) (after l : List A) → l ≡ before ++ a ∷ after → All (λ c. NoneOf (g c)) before → Refuses (g a) k x → Refuses (each_of g l) k x
  each_from g [] a after l e n r = rw e (append_from (g a) (each_of g after) (inl r))
  each_from g (b ∷ before) a after l e n r = rw e (append_from (g b) (each_of g (before ++ a ∷ after)) (inr (n.0, each_from g before a after (before ++ a ∷ after) refl n.1 r)))

  pub refuses_each : {A : Type 0} (g : A → List Line) (l : List A) → Refuses (each_of g l) k x ↔ FirstOf g l
  refuses_each g l = (each_to g l, λ q. each_from g q.before q.member q.after l q.parts q.fine q.refuses)

  -- the whole table, flat: a line that applies, of this number and value, and no line before it applies
  pub record FirstLine (l : List Line) : Type 1 where
    pub before : List Line
    pub line : Line
    pub after : List Line
    pub parts : l ≡ before ++ line ∷ after
    pub earlier : NoneOf before
    pub applies : line.holds
    pub number : k ≡ line.number
    pub value : x ≡ line.value

  first_to : (l : List Line) → Refuses l k x → FirstLine l
  first_to [] r = absurd r
  first_to (p ∷ l) (inl q) = record { before = []; line = p; after = l; parts = refl; earlier = tt; applies = q.0; number = q.1; value = q.2 }
  first_to (p ∷ l) (inr q) =
      let i = first_to l q.1 in
      record { before = p ∷ i.before; line = i.line; after = i.after; parts = ap (λ (y : List Line). p ∷ y) i.parts; earlier = (q.0, i.earlier); applies = i.applies; number = i.number; value = i.value }

  first_from : (l before : List Line) (p : Line) (after : List Line) → l ≡ before ++ p ∷ after → NoneOf before → p.holds → k ≡ p.number → x ≡ p.value → Refuses l k x
  first_from l [] p after e n h a b = rw e (inl (h, a, b))
  first_from l (q ∷ before) p after e n h a b = rw e (inr (n.0, first_from (before ++ p ∷ after) before p after refl n.1 h a b))

  pub refuses_first_line : (l : List Line) → Refuses l k x ↔ FirstLine l
  refuses_first_line l = (first_to l, λ q. first_from l q.before q.line q.after q.parts q.earlier q.applies q.number q.value)
