use Rattle.std.proofs.Common.{ap, ◌∙◌}
use Rattle.vacuum.specs.Sweeping.{sweep_report, sweep_relink, sweep_reported, sweep_cells, sweep_done}
use Rattle.kinds.specs.Versions.{value_of}
use Rattle.kinds.specs.Answer.{Vacuumed}
use Rattle.kinds.specs.declared.Version.{Version}
use Rattle.vacuum.proofs.sweep.Goals as goal

pub report_dead-requires : goal.report_dead-requires
report_dead-requires c = sweep_report _ _ _ _ _ c.requires.sweepable _ c.version_at-v.ensures

pub relink-requires : goal.relink-requires
relink-requires c = sweep_relink _ _ _ _ _ c.requires.sweepable _ c.version_at-v.ensures

pub give_all-requires : goal.give_all-requires
give_all-requires c = record {
  meta_words_in_bounds = c.requires.meta_words_in_bounds;
  all_cells = sweep_cells _ _ _ _ _ c.requires.sweepable _ c.version_at-v.ensures _ c.report_dead.ensures _ c.relink.ensures;
}

pub returns : goal.returns
returns c = record {
  value = ap (Vacuumed c.args.count) (c.reading-live.ensures ∙ ap (λ (v : Version). value_of v) c.version_at-v.ensures);
  reports_after = sweep_reported _ _ _ _ _ c.requires.sweepable _ c.version_at-v.ensures _ c.report_dead.ensures;
  swept = λ r t. sweep_done _ _ _ _ _ c.requires.sweepable _ c.version_at-v.ensures _ c.report_dead.ensures _ c.relink.ensures _ r t _ (c.give_all.ensures r t);
}
