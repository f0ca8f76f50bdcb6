-- A record kept byte by byte.
use Rattle.std.specs.Prelude.{ℕ, ◌-◌, List, take, drop}

-- the bytes of a piece from a place to another
abbrev pub between : List ℕ → ℕ → ℕ → List ℕ
between s from i = take (i - from) (drop from s)
