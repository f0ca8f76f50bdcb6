-- Every call keeps what holds, with the log for its history: from an accepted creation on, in any sequence, refused calls included.
use Rattle.rules.specs.History.{Log, last_in, who_in, view_in, own_in}
use Rattle.rules.specs.Theory.Inv.{Hist}

abbrev pub hist_of : Log → Hist
hist_of l = record { last = last_in l; who = who_in l; view = view_in l; own = own_in l }
