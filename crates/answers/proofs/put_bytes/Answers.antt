use Rattle.answers.specs.Laws.{laid_copied}
use Rattle.answers.proofs.put_bytes.Goals as goal

pub returns : goal.returns
returns c = laid_copied c.args.buf.now c.args.w.now _ c.args.at c.requires c.copy_from_slice.ensures.after
