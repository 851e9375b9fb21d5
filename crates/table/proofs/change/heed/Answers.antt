use Rattle.std.proofs.Common.{rules, ◌≡◌, None}
use Rattle.table.proofs.Changed.{heard-at, unheard-at}
use Rattle.table.proofs.change.heed.Goals as goal

pub returns-then-is_some : goal.returns-then-is_some
returns-then-is_some c = λ h. heard-at _ _ _ _ c.concern_at-c.ensures _ _ _ (c.becomes.ensures h) c.load_node.ensures c.takes-after.ensures

pub returns-else-is_some : goal.returns-else-is_some
returns-else-is_some c = λ h.
    let none : c.concern_at-c.result ≡ None = search rules in
    unheard-at _ _ _ _ c.concern_at-c.ensures h c.args.k.inside none
