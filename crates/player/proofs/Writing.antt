-- What is written of a piece, of an input and of its last record, from what is promised of each.
use Rattle.std.specs.Prelude.{ℕ, ◌+◌, ◌<◌, ◌≤◌, ◌≡◌, Option, None, Some, IfSome, Result, Ok, Err, OnErr, List, [], ◌++◌, length, take, drop}
use Rattle.std.specs.Io.KnownBytes.{Appends, Consumes, Keeps, IsAtEnd}
use Rattle.std.proofs.Common.{sym, ap, subst, ◌∙◌, arith, append_assoc, append-nil, length-append}
use Rattle.std.proofs.KnownBytes.{Appends-nil, Appends-trans, Consumes-nil, Consumes-trans, Consumes-kept}
use Rattle.words.specs.Sizes.{base, last_id}
use Rattle.rules.specs.Memory.{Mem}
use Rattle.digits.specs.Numbers.{Laid}
use Rattle.pieces.specs.declared.Held.{Held}
use Rattle.pieces.specs.Held.{Holds}
use Rattle.pieces.specs.Laws.{between}
use Rattle.pieces.proofs.Laws.{between_none, between_joins, between_rest, between_all}
use Rattle.pieces.specs.Texts.{records}
use Rattle.pieces.specs.Parts.{Parts, parts, behind}
use Rattle.pieces.proofs.Parts.{no_end_no_part, parts_go_on, records_go_on}
use Rattle.perform.specs.Perform.{Rooms, replayed, memory_after}
use Rattle.perform.specs.Laws.{replayed_both, memory_after_both}
use Rattle.player.specs.declared.Place.{Place}
use Rattle.player.specs.Turns.{Answered}
use Rattle.player.specs.Batches.{Taken, Batched, taken_none, taken_then}
use Rattle.player.specs.Runs.{front_of_lem}
use Rattle.player.specs.Written.{Wrote, Hearing, Heard, Replayed, Whole, Stopped, Failed, Unanswered}

-- ---- a piece, from its start

pub wrote_none : (z : Rooms) (p front : List ℕ) (h : Held) (m : Mem base) (was : Option (List ℕ)) → Holds p front h → Wrote z p [] m was was
unfolding replayed
wrote_none z p front h m was x =
    let e : [] ≡ replayed z (parts (p ++ [])).closed m =
    sym (ap (λ (q : Parts). replayed z q.closed m) (ap parts (append-nil p) ∙ no_end_no_part p x.no_end)) in
    subst (λ (l : List ℕ). Appends was was l) e (Appends-nil was)

pub wrote_both : (z : Rooms) (p u v front : List ℕ) (h : Held) (m k : Mem base) (was mid now : Option (List ℕ))
    → Taken z p u front h m k → Wrote z p u m was mid → Wrote z (parts (p ++ u)).rest v k mid now → Wrote z p (u ++ v) m was now
wrote_both z p u v front h m k was mid now t x y =
    let e : parts (p ++ (u ++ v)) ≡ behind (parts (p ++ u)).closed (parts ((parts (p ++ u)).rest ++ v)) = ap parts (sym (append_assoc p u v)) ∙ parts_go_on v (p ++ u) in
    let f : replayed z (parts (p ++ u)).closed m ++ replayed z (parts ((parts (p ++ u)).rest ++ v)).closed k ≡ replayed z (parts (p ++ (u ++ v))).closed m =
    ap (λ (n : Mem base). replayed z (parts (p ++ u)).closed m ++ replayed z (parts ((parts (p ++ u)).rest ++ v)).closed n) t.memory
    ∙ sym (replayed_both z (parts (p ++ u)).closed (parts ((parts (p ++ u)).rest ++ v)).closed m) ∙ ap (λ (q : Parts). replayed z q.closed m) (sym e) in
    subst (λ (l : List ℕ). Appends was now l) f (Appends-trans was mid now _ _ x y)

module _ (z : Rooms) (p piece : List ℕ) where
  pub wrote_start : (from : ℕ) (front : List ℕ) (h : Held) (m : Mem base) (was : Option (List ℕ)) → from ≡ 0 → Holds p front h → Wrote z p (between piece 0 from) m was was
  wrote_start from front h m was e x =
      let q : [] ≡ between piece 0 from = sym (ap (between piece 0) e ∙ between_none piece 0) in
      subst (λ (s : List ℕ). Wrote z p s m was was) q (wrote_none z p front h m was x)

  -- a batch that was put at the output's front, and the front written
  pub wrote_then : (here x : Place) (f g : List ℕ) (m k after : Mem base) (b c : List ℕ) (was mid now : Option (List ℕ)) → here.from ≤ x.from → here.at ≡ 0 → x.at ≤ length c
      → Taken z p (between piece 0 here.from) f here.held m k → Wrote z p (between piece 0 here.from) m was mid
      → Batched z (parts (p ++ between piece 0 here.from)).rest (between piece here.from x.from) g x.held k after b c here.at x.at
      → Appends mid now (take x.at c) → Wrote z p (between piece 0 x.from) m was now
  wrote_then here x f g m k after b c was mid now l e n t v w o =
      let rest = (parts (p ++ between piece 0 here.from)).rest in
      let lines = subst (λ (i : ℕ). Laid b c i x.at (replayed z (parts (rest ++ between piece here.from x.from)).closed k)) e w.lines in
      let q : take x.at c ≡ replayed z (parts (rest ++ between piece here.from x.from)).closed k = front_of_lem lines n in
      subst (λ (s : List ℕ). Wrote z p s m was now) (between_joins piece 0 here.from x.from (omega arith) l) (wrote_both z p _ _ f here.held m k was mid now t v (subst (λ (s : List ℕ). Appends mid now s) q o))

  pub all_wrote : (from : ℕ) (m : Mem base) (was now : Option (List ℕ)) → length piece ≤ from → Wrote z p (between piece 0 from) m was now → Wrote z p piece m was now
  all_wrote from m was now l v = subst (λ (s : List ℕ). Wrote z p s m was now) (between_all piece 0 from (omega arith) l) v

-- ---- a whole text: the records that ended, and the last one

closed_and_rest : (s : List ℕ) → (parts s).closed ++ records (parts s).rest ≡ records s
closed_and_rest s = ap (λ (l : List ℕ). (parts s).closed ++ records l) (sym (append-nil (parts s).rest)) ∙ sym (records_go_on [] s) ∙ ap records (append-nil s)

all_performed : (z : Rooms) (s : List ℕ) (m k after : Mem base) → k ≡ memory_after z (parts s).closed m → after ≡ memory_after z (records (parts s).rest) k → after ≡ memory_after z (records s) m
all_performed z s m k after x y =
    y ∙ ap (memory_after z (records (parts s).rest)) x ∙ sym (memory_after_both z (parts s).closed (records (parts s).rest) m)
    ∙ ap (λ (l : List (List ℕ)). memory_after z l m) (closed_and_rest s)

-- ---- an input, from its start

module _ (z : Rooms) (m : Mem base) (left was : Option (List ℕ)) where
  pub hearing_start : (front : List ℕ) (h : Held) (turns : ℕ) → last_id ≤ turns → Holds [] front h → Hearing z turns front h m m left left was was
  hearing_start front h turns l x =
      record { s = []; read = Consumes-nil left; counted = omega arith; taken = taken_none z [] front h m x; written = wrote_none z [] front h m was x }

  -- another piece
  pub hearing_then : (a b : ℕ) → a ≤ b + 1 → (f g : List ℕ) (h i : Held) (k after : Mem base) (mid rest old now : Option (List ℕ)) (v : List ℕ)
      → Hearing z a f h m k left mid was old → Consumes mid rest v → 0 < length v
      → ((p : List ℕ) → Holds p f h → Taken z p v g i k after) → ((p : List ℕ) → Holds p f h → Wrote z p v k old now)
      → Hearing z b g i m after left rest was now
  hearing_then a b l f g h i k after mid rest old now v x r n t w =
      let held = x.taken.holds in
      record {
        s = x.s ++ v;
        read = Consumes-trans left mid rest _ _ x.read r;
        counted = omega (arith, x.counted, length-append x.s v);
        taken = taken_then z x.taken (t _ held);
        written = wrote_both z [] x.s v f h m k was old now x.taken x.written (w _ held);
      }

  module _ (front : List ℕ) (h : Held) (after : Mem base) (rest now : Option (List ℕ)) where
    -- a read gave nothing
    pub heard_end : (turns : ℕ) → Hearing z turns front h m after left rest was now → IsAtEnd rest → Heard z front h m after left rest was now
    heard_end turns x e = record { s = x.s; read = x.read; ended = λ l. e; taken = x.taken; written = x.written }

    -- no turn is left
    pub heard_long : (turns : ℕ) → turns ≡ 0 → Hearing z turns front h m after left rest was now → Heard z front h m after left rest was now
    heard_long turns e x = record { s = x.s; read = x.read; ended = λ l. absurd (omega (arith, e, l, x.counted)); taken = x.taken; written = x.written }

  -- and the rest
  pub heard_rest : (f : List ℕ) (h : Held) (k after : Mem base) (b c : List ℕ) (at : ℕ) (rest mid now : Option (List ℕ))
      → Heard z f h m k left rest was mid → ((p : List ℕ) → Holds p f h → Answered z (records p) k after b c 0 at) → at ≤ length c → Appends mid now (take at c)
      → Replayed z m after left rest was now
  heard_rest f h k after b c at rest mid now x r n o =
      let a = r _ x.taken.holds in
      let e : (parts x.s).closed ++ records (parts x.s).rest ≡ records x.s = closed_and_rest x.s in
      let q : replayed z (parts x.s).closed m ++ take at c ≡ replayed z (records x.s) m =
      ap (λ (l : List ℕ). replayed z (parts x.s).closed m ++ l) (front_of_lem a.lines n ∙ ap (replayed z (records (parts x.s).rest)) x.taken.memory)
      ∙ sym (replayed_both z (parts x.s).closed (records (parts x.s).rest) m) ∙ ap (λ (l : List (List ℕ)). replayed z l m) e in
      record {
        s = x.s;
        read = x.read;
        ended = x.ended;
        memory = all_performed z x.s m k after x.taken.memory a.memory;
        written = subst (λ (l : List ℕ). Appends was now l) q (Appends-trans was mid now _ _ x.written o);
      }

-- where what is left to read is known and shorter than any number of turns, that is what was read
pub replayed_whole : (z : Rooms) (m after : Mem base) (left rest was now : Option (List ℕ)) → Replayed z m after left rest was now
    → IfSome left (λ t. length t < last_id → Whole z t m after was now)
replayed_whole z m after None rest was now x = tt
replayed_whole z m after (Some t) None was now x = absurd x.read
replayed_whole z m after (Some t) (Some r) was now x = λ l.
    let n : length x.s < last_id = omega (arith, l, ap length x.read, length-append x.s r) in
    let e : x.s ≡ t = sym (x.read ∙ ap (λ (q : List ℕ). x.s ++ q) (x.ended n) ∙ append-nil x.s) in
    record { written = subst (λ (q : List ℕ). Appends was now (replayed z (records q) m)) e x.written; memory = subst (λ (q : List ℕ). after ≡ memory_after z (records q) m) e x.memory }

-- where nobody sees the memory afterwards, what was written
pub whole_written : (z : Rooms) (m after : Mem base) (left was now : Option (List ℕ)) → IfSome left (λ t. length t < last_id → Whole z t m after was now)
    → IfSome left (λ t. length t < last_id → Appends was now (replayed z (records t) m))
whole_written z m after None was now x = tt
whole_written z m after (Some t) was now x = λ l. (x l).written

-- ---- where a read or a write fails

-- what holds anyway
pub on_err_anyway : {T E P : Type 0} (r : Result T E) → P → OnErr r P
on_err_anyway (Ok x) p = tt
on_err_anyway (Err e) p = p

-- after a batch
pub stopped_in : (z : Rooms) (p piece : List ℕ) (from : ℕ) (front : List ℕ) (h : Held) (m after : Mem base) → Taken z p (between piece 0 from) front h m after → Stopped z p piece m after
stopped_in z p piece from front h m after x = record { s = between piece 0 from; later = drop from piece; cut = sym (between_rest piece 0 from (omega arith)); memory = x.memory }

module _ (z : Rooms) (m : Mem base) (left was : Option (List ℕ)) where
  -- a read gave an error
  pub failed_read : (turns : ℕ) (front : List ℕ) (h : Held) (after : Mem base) (mid rest now : Option (List ℕ)) → Hearing z turns front h m after left mid was now → Keeps mid rest → Failed z m after left rest
  failed_read turns front h after mid rest now x k =
      record {
        text = x.s;
        read = Consumes-kept left mid rest x.s x.read k;
        stopped = record { s = x.s; later = []; cut = sym (append-nil x.s); memory = x.taken.memory };
      }

  -- or a write in a piece
  pub failed_write : (turns : ℕ) (front : List ℕ) (h : Held) (k after : Mem base) (mid rest now : Option (List ℕ)) (v : List ℕ)
      → Hearing z turns front h m k left mid was now → Consumes mid rest v → ((p : List ℕ) → Holds p front h → Stopped z p v k after) → Failed z m after left rest
  failed_write turns front h k after mid rest now v x r t =
      let w = t _ x.taken.holds in
      let e : parts (x.s ++ w.s) ≡ behind (parts x.s).closed (parts ((parts x.s).rest ++ w.s)) = parts_go_on w.s x.s in
      record {
        text = x.s ++ v;
        read = Consumes-trans left mid rest _ _ x.read r;
        stopped = record {
          s = x.s ++ w.s;
          later = w.later;
          cut = ap (λ (l : List ℕ). x.s ++ l) w.cut ∙ sym (append_assoc x.s w.s w.later);
          memory = w.memory ∙ ap (memory_after z (parts ((parts x.s).rest ++ w.s)).closed) x.taken.memory
              ∙ sym (memory_after_both z (parts x.s).closed (parts ((parts x.s).rest ++ w.s)).closed m) ∙ ap (λ (q : Parts). memory_after z q.closed m) (sym e);
        };
      }

  -- or the last write
  pub unanswered : (f : List ℕ) (h : Held) (k after : Mem base) (b c : List ℕ) (at : ℕ) (rest mid : Option (List ℕ))
      → Heard z f h m k left rest was mid → ((p : List ℕ) → Holds p f h → Answered z (records p) k after b c 0 at) → Unanswered z m after left rest
  unanswered f h k after b c at rest mid x r =
      let a = r _ x.taken.holds in
      record {
        s = x.s;
        read = x.read;
        ended = x.ended;
        memory = all_performed z x.s m k after x.taken.memory a.memory;
      }
