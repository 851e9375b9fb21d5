-- What the theorems of proofs/Order.antt speak of; these definitions are to be believed.
use mathlib.Core.List.{List, [], ◌∷◌}
use Rattle.alias_map.specs.declared.entry.Entry.{Entry}

-- Some of these entries, in their order.
pub data Within : List Entry → List Entry → Type 0 where
  none : Within [] []
  skips : {y : Entry} {xs ys : List Entry} → Within xs ys → Within xs (y ∷ ys)
  takes : {x : Entry} {xs ys : List Entry} → Within xs ys → Within (x ∷ xs) (x ∷ ys)
