-- Commit publishes one write: a loose cell becomes the head of its row.
use Rattle.std.specs.Prelude.{◌≢◌, ◌≡◌, ℕ}
use Rattle.kinds.specs.declared.Version.{Version}
use Rattle.rules.specs.Theory.Inv.{Ver, ver_of}

abbrev pub vers_f : (ℕ → Version) → ℕ → Ver
vers_f f c = ver_of (f c)

abbrev pub nexts_f : (ℕ → Version) → ℕ → ℕ
nexts_f f c = (f c).next.0

abbrev pub expire : Ver → ℕ → Ver
expire v x = record { xmin = v.xmin; xmax = x; val = v.val }

-- what the stores do to the versions, part by part
pub record Published (f g : ℕ → Version) (t b c : ℕ) : Type 0 where
  pub others : (d : ℕ) → d ≢ b → vers_f g d ≡ vers_f f d
  pub marked : b ≢ 0 → vers_f g b ≡ expire (vers_f f b) t
  pub nexted : (d : ℕ) → d ≢ c → nexts_f g d ≡ nexts_f f d
  pub linked : nexts_f g c ≡ b

abbrev pub of_next : Version → ℕ
of_next v = v.next.0
