-- Members of a list: in it, each once, picked by a property.
use Rattle.std.specs.Prelude.{List, [], ◌∷◌}
use Rattle.rules.specs.Exactly.{In}

-- each member once
abbrev pub Once : {A : Type 0} → List A → Type 0
Once [] = Unit {0}
Once (a ∷ l) = (In a l → ⊥) × Once l
