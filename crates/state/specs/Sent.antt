-- What is read off a header that a node sends: bit 28 as 1 (A.5), its kind and its alias.
use Rattle.std.specs.Prelude.{◌≡◌, ℕ, ◌^◌, ◌<◌}
use Rattle.std.proofs.Common.{arith}
use Rattle.headers.specs.Rules.{bit_in, kind_of}
use Rattle.headers.proofs.Laws.{kind-written, alias-written}
use Rattle.state.specs.Rules.{sent_header, alias_in, kind_in}

pub sent-bit : (t f a : ℕ) → t < 2 → f < 2 ^ 15 → a < 2 ^ 12 → bit_in (sent_header t f a) ≡ 1
sent-bit t f a ht hf ha = omega arith

pub sent-kind : (t f a : ℕ) → t < 2 → f < 2 ^ 15 → a < 2 ^ 12 → kind_in (sent_header t f a) ≡ kind_of t f
sent-kind t f a ht hf ha = kind-written 1 t f a ht hf ha

pub sent-alias : (t f a : ℕ) → a < 2 ^ 12 → alias_in (sent_header t f a) ≡ a
sent-alias t f a ha = alias-written 1 t f a ha
