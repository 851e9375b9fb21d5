use Rattle.text.specs.Sheet.{fits}
use Rattle.gridconnect.proofs.writer.store.Goals as goal

pub returns : goal.returns
returns c = fits c.args.text.now c.args.at c.args.b c.requires
