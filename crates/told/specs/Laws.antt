-- The numbers of a result are those of the rules' answer that it stands for.
use Rattle.std.specs.Prelude.{ℕ, Result, Ok, Err, ◌≡◌, refl}
use Rattle.kinds.specs.declared.Cell.{Cell}
use Rattle.kinds.specs.declared.Begun.{Begun}
use Rattle.kinds.specs.declared.Vacuumed.{Vacuumed}
use Rattle.kinds.specs.declared.Reading.{Reading}
use Rattle.kinds.specs.declared.refusals.Refusal.{Refusal}
use Rattle.kinds.specs.Results.{done, begun, wrote, listed, vacuumed, seen}
use Rattle.rules.specs.Numbers.{number_of, read_number}
use Rattle.told.specs.Numbers.{number_in, about_in, about, read_about}

pub number_of_done : (r : Result (Unit {0}) Refusal) → number_in r ≡ number_of (done r)
number_of_done (Ok x) = refl
number_of_done (Err e) = refl

pub about_done : (r : Result (Unit {0}) Refusal) → about_in r ≡ about (done r)
about_done (Ok x) = refl
about_done (Err e) = refl

pub number_of_begun : (r : Result Begun Refusal) → number_in r ≡ number_of (begun r)
number_of_begun (Ok x) = refl
number_of_begun (Err e) = refl

pub about_begun : (r : Result Begun Refusal) → about_in r ≡ about (begun r)
about_begun (Ok x) = refl
about_begun (Err e) = refl

pub number_of_wrote : (r : Result Cell Refusal) → number_in r ≡ number_of (wrote r)
number_of_wrote (Ok x) = refl
number_of_wrote (Err e) = refl

pub about_wrote : (r : Result Cell Refusal) → about_in r ≡ about (wrote r)
about_wrote (Ok x) = refl
about_wrote (Err e) = refl

pub number_of_listed : (r : Result ℕ Refusal) → number_in r ≡ number_of (listed r)
number_of_listed (Ok x) = refl
number_of_listed (Err e) = refl

pub about_listed : (r : Result ℕ Refusal) → about_in r ≡ about (listed r)
about_listed (Ok x) = refl
about_listed (Err e) = refl

pub number_of_vacuumed : (r : Result Vacuumed Refusal) → number_in r ≡ number_of (vacuumed r)
number_of_vacuumed (Ok x) = refl
number_of_vacuumed (Err e) = refl

pub about_vacuumed : (r : Result Vacuumed Refusal) → about_in r ≡ about (vacuumed r)
about_vacuumed (Ok x) = refl
about_vacuumed (Err e) = refl

pub number_of_seen : (r : Result Reading Refusal) → number_in r ≡ read_number (seen r)
number_of_seen (Ok Reading.None) = refl
number_of_seen (Ok Reading.Empty) = refl
number_of_seen (Ok (Reading.Key k)) = refl
number_of_seen (Err e) = refl

pub about_seen : (r : Result Reading Refusal) → about_in r ≡ read_about (seen r)
about_seen (Ok Reading.None) = refl
about_seen (Ok Reading.Empty) = refl
about_seen (Ok (Reading.Key k)) = refl
about_seen (Err e) = refl
