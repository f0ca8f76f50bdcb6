-- The link of a free cell.
use Rattle.std.specs.Prelude.{ℕ, ◌+◌, cond, leb}

-- cell c of n cells that are handed out in order: the next one is free after it, after the last none
abbrev pub link_after : ℕ → ℕ → ℕ
link_after c n = cond (leb n c) 0 (c + 1)
