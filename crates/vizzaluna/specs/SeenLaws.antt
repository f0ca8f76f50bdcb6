-- A call of the store and the numbers taken from its answer are what a host sees. o is what the rules say of the call, and `e` the promise
-- of the store's call.
use Rattle.std.specs.Prelude.{ℕ, List, [], ◌≡◌}
use Rattle.std.proofs.Common.{ap, ◌∙◌}
use Rattle.std.proofs.lemmas.List.Edits.{sets}
use Rattle.kinds.specs.ReadAnswer.{ReadAnswer}
use Rattle.kinds.specs.Answer.{Answer}
use Rattle.words.specs.Sizes.{base}
use Rattle.rules.specs.Numbers.{read_number, number_of}
use Rattle.rules.specs.Memory.{Mem}
use Rattle.rules.specs.Outcome.{Outcome, out}
use Rattle.told.specs.Numbers as told
use Rattle.vizzaluna.specs.Seen.{Made, Began, Read, Wrote, Ended, Swept, Found}

-- a number of the answer
module _ {A B : Type 0} (o : Outcome base A B) (a : A) (l : List B) (after : Mem base) (e : out a l after ≡ o) where
  of_answer : (f : A → ℕ) (k : ℕ) → k ≡ f a → k ≡ f o.answer
  of_answer f k h = h ∙ ap (λ (x : Outcome base A B). f x.answer) e

  of_memory : after ≡ o.after
  of_memory = ap (λ (x : Outcome base A B). x.after) e

module _ (o : Outcome base Answer ℕ) (a : Answer) (after : Mem base) (e : out a [] after ≡ o) (n : ℕ) (is-n : n ≡ number_of a) where
  pub made : Made o n after
  made = record { number = of_answer o a [] after e number_of n is-n; memory = of_memory o a [] after e }

  pub began : (s i : ℕ) → s ≡ told.first a → i ≡ told.begun_id a → Began o n s i after
  began s i p q = record {
    number = of_answer o a [] after e number_of n is-n;
    slot_is = of_answer o a [] after e told.first s p;
    id_is = of_answer o a [] after e told.begun_id i q;
    memory = of_memory o a [] after e;
  }

  pub wrote : (c x : ℕ) → c ≡ told.first a → x ≡ told.about a → Wrote o n c x after
  wrote c x p q = record {
    number = of_answer o a [] after e number_of n is-n;
    cell_is = of_answer o a [] after e told.first c p;
    about_is = of_answer o a [] after e told.about x q;
    memory = of_memory o a [] after e;
  }

  pub ended : (x : ℕ) → x ≡ told.about a → Ended o n x after
  ended x q = record {
    number = of_answer o a [] after e number_of n is-n;
    about_is = of_answer o a [] after e told.about x q;
    memory = of_memory o a [] after e;
  }

pub read : (o : Outcome base ReadAnswer ℕ) (a : ReadAnswer) (after : Mem base) → out a [] after ≡ o → (n k y x : ℕ) → n ≡ read_number a → k ≡ told.kind a → y ≡ told.read_key a → x ≡ told.read_about a → Read o n k y x after
read o a after e n k y x is-n p q r = record {
  number = of_answer o a [] after e read_number n is-n;
  kind_is = of_answer o a [] after e told.kind k p;
  key_is = of_answer o a [] after e told.read_key y q;
  about_is = of_answer o a [] after e told.read_about x r;
  memory = of_memory o a [] after e;
}

pub swept : (o : Outcome base Answer (List ℕ)) (a : Answer) (after : Mem base) (buffer buffer' : List (List ℕ)) → out a o.front after ≡ o → buffer' ≡ sets buffer 0 o.front
    → (n c k y x : ℕ) → n ≡ number_of a → c ≡ told.first a → k ≡ told.kind (told.live a) → y ≡ told.read_key (told.live a) → x ≡ told.about a → Swept o n c k y x after buffer buffer'
swept o a after buffer buffer' e b n c k y x is-n p q r t = record {
  number = of_answer o a o.front after e number_of n is-n;
  count_is = of_answer o a o.front after e told.first c p;
  kind_is = of_answer o a o.front after e (λ x. told.kind (told.live x)) k q;
  key_is = of_answer o a o.front after e (λ x. told.read_key (told.live x)) y r;
  about_is = of_answer o a o.front after e told.about x t;
  memory = of_memory o a o.front after e;
  reports = b;
}

pub found : (o : Outcome base Answer ℕ) (a : Answer) (after : Mem base) (buffer buffer' : List ℕ) → out a o.front after ≡ o → buffer' ≡ sets buffer 0 o.front
    → (n c x : ℕ) → n ≡ number_of a → c ≡ told.first a → x ≡ told.about a → Found o n c x after buffer buffer'
found o a after buffer buffer' e b n c x is-n p q = record {
  number = of_answer o a o.front after e number_of n is-n;
  count_is = of_answer o a o.front after e told.first c p;
  about_is = of_answer o a o.front after e told.about x q;
  memory = of_memory o a o.front after e;
  rows = b;
}
