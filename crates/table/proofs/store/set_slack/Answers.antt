use Rattle.table.proofs.Stored.{slackened}
use Rattle.table.proofs.store.set_slack.Goals as goal

pub returns : goal.returns
returns c = λ h l. slackened _ _ h l
