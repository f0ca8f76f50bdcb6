-- Gap 2 in upstream's terms: an accepted commit leaves the image of phase 3 of every write, one after the other, but for the bases' locks and
-- owners. Of any write set whose cells are apart; every open one is.
use Rattle.std.specs.Prelude.{ℕ, ◌≡◌, ◌≢◌, get_or}
use mathlib.Core.List.{List, [], ◌∷◌, ◌++◌}
use Rattle.std.proofs.Math.Option.{Option, none, some}
use Rattle.std.proofs.Math.Path.{refl, ap, subst}
use Rattle.std.proofs.Common.{sym, ◌∙◌, inl, inr}
use Rattle.kinds.specs.declared.Version.{Version}
use Rattle.words.specs.Sizes.{Sizes, Roomy, ROWS, CELLS}
use Rattle.kinds.specs.Versions.{with_xmax, with_next, unlocked, version_of}
use Rattle.words.specs.Slots.{Write}
use Rattle.rules.specs.Memory.{Mem, head_at, slot_at}
use Rattle.rules.specs.Read.{own}
use Rattle.rules.specs.Commit.{commit_out}
use Rattle.rules.specs.Abort.{news}
use Rattle.rules.specs.History.{Log, who_in}
use Rattle.rules.specs.Reachable.{Reachable}
use Rattle.rules.specs.Exactly.{In, All, NoneOf}
use Rattle.rules.proofs.Exactly.{all_map}
use Rattle.rules.specs.Terms.{NoEntry, OwnIs}
use Rattle.rules.proofs.Terms.{own_is}
use Rattle.rules.proofs.Members.{in_or_not, all_in, in_all}
use Rattle.rules.proofs.CommitRefuses.{commit_lines}
use Rattle.rules.specs.Published.{From, Apart}
use Rattle.rules.proofs.CommitPublishes.{commit_moves_each_head, commit_keeps_other_heads, commit_marks_each_base, commit_links_each_new, commit_keeps_other_cells, commit_keeps_the_clock}
use Rattle.upstream.specs.Images.{Image, image_of}
use Rattle.upstream.specs.Publication.{publication_prefix, published_all, SameButLocks}
use Rattle.upstream.proofs.Publishes.{phase_3_head, phase_3_other_head, phase_3_sizes, phase_3_new, phase_3_base, phase_3_else}
use Rattle.upstream.proofs.PreparedWrites.{new_in}
use Rattle.upstream.proofs.ApartWrites.{open_writes_are_apart}

-- ---- phase 3 of several writes, head by head and cell by cell
module _ (id : ℕ) where
  all_sizes : (ws : List Write) (s : Image) → ((published_all ws id s).cells ≡ s.cells) × ((published_all ws id s).capacity ≡ s.capacity)
  unfolding published_all
  all_sizes [] s = (refl, refl)
  all_sizes (w ∷ ws) s =
      let r = all_sizes ws (publication_prefix s w id 3) in
      let q = phase_3_sizes s w id in
      (r.0 ∙ q.0, r.1 ∙ q.1)

  all_other_heads : (ws : List Write) (s : Image) (r : ℕ) → NoEntry ws r → (published_all ws id s).heads r ≡ s.heads r
  unfolding published_all
  all_other_heads [] s r n = refl
  all_other_heads (w ∷ ws) s r n = all_other_heads ws (publication_prefix s w id 3) r n.1 ∙ phase_3_other_head s w id r (λ e. n.0 (sym e))

  all_heads : (before : List Write) (w : Write) (after : List Write) (s : Image) (r : ℕ) → w.row ≡ r → NoEntry after r → (published_all (before ++ w ∷ after) id s).heads r ≡ w.new
  unfolding published_all
  all_heads [] w after s r e n = all_other_heads after (publication_prefix s w id 3) r n ∙ phase_3_head s w id r (sym e)
  all_heads (q ∷ before) w after s r e n = all_heads before w after (publication_prefix s q id 3) r e n

  all_else : (ws : List Write) (s : Image) (c : ℕ) → All (λ (w : Write). (c ≢ w.new) × (w.base ≢ 0 → c ≢ w.base)) ws → (published_all ws id s).rows c ≡ s.rows c
  unfolding published_all
  all_else [] s c h = refl
  all_else (w ∷ ws) s c h = all_else ws (publication_prefix s w id 3) c h.1 ∙ phase_3_else s w id c h.0.0 h.0.1

  all_bases : (ws : List Write) (s : Image) (w : Write) → Apart ws → In w ws → w.base ≢ 0 → (published_all ws id s).rows w.base ≡ with_xmax (s.rows w.base) id
  unfolding published_all
  all_bases [] s w a i n = absurd i
  all_bases (q ∷ ws) s w a (inl e) n =
      let n' : q.base ≢ 0 = subst (λ (y : Write). y.base ≢ 0) e n in
      rw e
      (all_else ws (publication_prefix s q id 3) q.base (all_map (From q) (λ (y : Write). (q.base ≢ y.new) × (y.base ≢ 0 → q.base ≢ y.base)) (λ y k. (k.new_base, λ o. k.bases n')) ws a.1)
      ∙ phase_3_base s q id (λ x. a.0 (sym x)) n')
  all_bases (q ∷ ws) s w a (inr i) n =
      let f = all_in (From q) ws a.1 w i in
      all_bases ws (publication_prefix s q id 3) w a.2 i n ∙ ap (λ (v : Version). with_xmax v id) (phase_3_else s q id w.base f.base_new (λ o e. f.bases o (sym e)))

  all_news : (ws : List Write) (s : Image) (w : Write) → Apart ws → In w ws → (published_all ws id s).rows w.new ≡ with_next (s.rows w.new) w.base
  unfolding published_all
  all_news [] s w a i = absurd i
  all_news (q ∷ ws) s w a (inl e) =
      rw e
      (all_else ws (publication_prefix s q id 3) q.new (all_map (From q) (λ (y : Write). (q.new ≢ y.new) × (y.base ≢ 0 → q.new ≢ y.base)) (λ y k. (k.news, λ o b. k.base_new (sym b))) ws a.1)
      ∙ phase_3_new s q id (λ x. a.0 (sym x)))
  all_news (q ∷ ws) s w a (inr i) =
      let f = all_in (From q) ws a.1 w i in
      all_news ws (publication_prefix s q id 3) w a.2 i ∙ ap (λ (v : Version). with_next v w.base) (phase_3_else s q id w.new (λ e. f.news (sym e)) (λ o e. f.new_base (sym e)))

-- the write of a new cell
new_of_lem : (ws : List Write) (p : ℕ) → In p (news ws) → (w : Write) × In w ws × (p ≡ w.new)
new_of_lem [] p i = absurd i
new_of_lem (q ∷ ws) p (inl e) = (q, inl refl, e)
new_of_lem (q ∷ ws) p (inr i) = let r = new_of_lem ws p i in (r.0, inr r.1, r.2)

-- ---- an accepted commit
module _ {z : Sizes} (m : Mem z) (s id : ℕ) (accepted : NoneOf (commit_lines m s id)) (apart : Apart (slot_at m s).writes) where
  abbrev ws : List Write
  ws = (slot_at m s).writes

  abbrev after : Mem z
  after = (commit_out m s id).after

  head_is : (r : ℕ) (o : Option Write) → OwnIs ws r o → (published_all ws id (image_of m)).heads r ≡ head_at after r
  head_is r none n = all_other_heads id ws (image_of m) r n ∙ sym (commit_keeps_other_heads m s id accepted r n)
  head_is r (some w) i = rw i.parts (all_heads id i.before w i.after (image_of m) r i.of_row i.none) ∙ sym (commit_moves_each_head m s id accepted r w i)

  pub publish_prepared_write_set_of_several : SameButLocks ws (published_all ws id (image_of m)) (image_of after)
  publish_prepared_write_set_of_several =
      record {
        heads = λ r b. head_is r (own ws r) (own_is ws r);
        rows = λ p off. in_or_not p (news ws)
            (λ i.
            let w = new_of_lem ws p i in
            rw w.2 (all_news id ws (image_of m) w.0 apart w.1 ∙ sym (commit_links_each_new m s id accepted apart w.0 w.1)))
            (λ i.
            let h : All (λ (w : Write). (p ≢ w.new) × (w.base ≢ 0 → p ≢ w.base)) ws = in_all _ ws (λ w j. ((λ e. i (subst (λ (c : ℕ). In c (news ws)) (sym e) (new_in ws w j))), off w j)) in
            all_else id ws (image_of m) p h ∙ sym (ap version_of (commit_keeps_other_cells m s id accepted p h)));
        bases = λ w i n. commit_marks_each_base m s id accepted apart w i n ∙ ap unlocked (sym (all_bases id ws (image_of m) w apart i n));
        cells = (all_sizes id ws (image_of m)).0 ∙ ap (λ (y : List ℕ). get_or y CELLS 0) (sym (commit_keeps_the_clock m s id accepted));
        capacity = (all_sizes id ws (image_of m)).1 ∙ ap (λ (y : List ℕ). get_or y ROWS 0) (sym (commit_keeps_the_clock m s id accepted));
      }

-- of every open transaction of every reachable store
pub open_writes_are_published_together : {z : Sizes} (rm : Roomy z) (m : Mem z) (l : Log) → Reachable m l → (s : ℕ) → who_in l s ≢ 0 → NoneOf (commit_lines m s (who_in l s))
    → SameButLocks (slot_at m s).writes (published_all (slot_at m s).writes (who_in l s) (image_of m)) (image_of (commit_out m s (who_in l s)).after)
open_writes_are_published_together rm m l rc s op accepted = publish_prepared_write_set_of_several m s (who_in l s) accepted (open_writes_are_apart rm m l rc s op)
