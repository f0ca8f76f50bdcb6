-- No call but a write has a field after its numbers.
use Prim.Native.Nat.{ℕ, ◌<◌}
use mathlib.Core.List.{List}
use mathlib.Core.Logic.{◌≢◌}
use mathlib.Core.Path.{◌≡◌, refl}
use lib.ListN.{length}
use Rattle.lines.specs.declared.Line.{Line}
use Rattle.lines.specs.declared.Word.{Word}
use Rattle.lines.specs.Fields.{rest, done_more}
use Rattle.lines.specs.Calls.{ending}

pub others_end : (w : Word) → w ≢ Word.Write → (a b c : ℕ) (s : List ℕ) (at : ℕ) → at < length s → Line.Other ≡ ending w a b c (rest s at)
unfolding ending
others_end Word.Store o a b c s at h = done_more s at (Line.Store b c) h
others_end Word.Begin o a b c s at h = done_more s at Line.Begin h
others_end Word.Read o a b c s at h = done_more s at (Line.Read a b c) h
others_end Word.Write o a b c s at h = absurd (o refl)
others_end Word.Commit o a b c s at h = done_more s at (Line.Commit b c) h
others_end Word.Abort o a b c s at h = done_more s at (Line.Abort b c) h
others_end Word.Vacuum o a b c s at h = done_more s at (Line.Vacuum b c) h
others_end Word.Find o a b c s at h = done_more s at (Line.Find a b c) h
others_end Word.Other o a b c s at h = refl
