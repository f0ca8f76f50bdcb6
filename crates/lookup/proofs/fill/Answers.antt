use Rattle.std.proofs.Math.Seq.{drop-append_seam}
use native.Mathlib.Omega.{arith}
use mathlib.Core.Path.{sym, ap, ◌∙◌}
use Rattle.std.proofs.Common.{◌++◌, ◌≡◌, drop, length, rules, tests, zero-add}
use Rattle.std.proofs.lemmas.List.Edits.{sets, sets-eq}
use Rattle.lookup.proofs.fill.Goals as goal

pub returns : goal.returns
returns c =
    let front = c.args.listed.now in
    let copied : front ++ drop (length front) c.args.results.now ≡ sets c.args.results.now 0 front = sym (sets-eq front c.args.results.now 0 (omega arith) ∙ ap (λ k. front ++ drop k c.args.results.now) (zero-add _)) in
    search (rules, tests, copied, drop-append_seam)
