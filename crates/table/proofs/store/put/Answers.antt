use Rattle.table.proofs.Stored.{put-at}
use Rattle.table.proofs.store.put.Goals as goal

pub returns : goal.returns
returns c = λ h. let q = c.args in put-at q.t.now q.k.index q.n q.s _ _ _ c.args.k.inside h c.state_word.ensures c.host_word.ensures c.host_bytes.ensures
