-- Document 01's checked examples P1 to P13, and examples of A.9, Node ID 050101010101, as one statement over the list, of the rules.
use Rattle.std.specs.Prelude.{refl, List, [], ◌∷◌, ◌++◌, map}
use Rattle.headers.specs.Rules.{kind_in, mixed}
use Rattle.headers.specs.Examples as H
use Rattle.headers.proofs.Examples.{examples-hold as headers-hold}
use Rattle.node.specs.Rules.{off_node, fresh, restart, moved, counted, waits, first_waiting, due_of, tick_of, sent_permitted, sent_of, same_alias, received, malformed, on_power_on, on_leave, on_receive, on_warm_on, read_out_of, cid_frame, rid_frame, amr_frame}
use Rattle.node.specs.Examples.{Example, below, All, events, warm_starts, examples}

all-below : (es : List H.Example) (fs : List Example) → H.All es → All fs → All (map below es ++ fs)
all-below [] fs h k = k
all-below (e ∷ es) fs h k = (h.0, all-below es fs h.1 k)

pub examples-hold : All examples
unfolding off_node fresh restart moved counted waits first_waiting due_of tick_of sent_permitted sent_of same_alias received malformed on_power_on on_leave on_receive on_warm_on read_out_of cid_frame rid_frame amr_frame kind_in mixed
examples-hold =
    all-below H.examples (events ++ warm_starts) headers-hold
    ((refl, refl), ((refl, refl), ((refl, refl), ((refl, refl), ((refl, refl), ((refl, refl), (refl, (refl, (refl, (refl, (refl, (refl, ((refl, refl), ((refl, refl), ((refl, refl), ((refl, refl), ((refl, refl), ((refl, refl), (refl, (refl, (refl, (refl, (refl, (refl, (refl, (refl, tt))))))))))))))))))))))))))
