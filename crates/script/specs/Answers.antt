-- Document 01's command for each case of the code's, and what is read of a script, a fault with its number.
use Rattle.std.specs.Prelude.{Option, Some, None, Result, Ok, Err}
use Rattle.headers.specs.Rules.{id_bytes, packed}
use Rattle.segment_rules.specs.Rules.{Command, power_on, send, fail, deliver, tick, foreign, message, enquiry, release, warm_on}
use Rattle.script.specs.Rules.{Found, command, refusal, nothing}
use Rattle.script.specs.declared.command.Command as C
use Rattle.script.specs.declared.command.Next.{Next}
use Rattle.script.specs.declared.command.Fault.{Fault}
use Rattle.script.specs.declared.command.Fault.TheVariants.{Unknown, CutShort}

abbrev pub command_as : C.Command → Command
command_as (C.TheVariants.PowerOn index id) = power_on index id
command_as (C.TheVariants.Send index) = send index
command_as (C.TheVariants.Fail index) = fail index
command_as (C.TheVariants.Deliver index) = deliver index
command_as C.TheVariants.Tick = tick
command_as (C.TheVariants.Foreign f) = foreign f
command_as (C.TheVariants.Message index field len bytes) = message index field len bytes
command_as (C.TheVariants.Enquiry index len id) = enquiry index len (packed (id_bytes id))
command_as (C.TheVariants.Release index) = release index
command_as (C.TheVariants.WarmOn index id flag state) = warm_on index id flag state

-- An unknown command is 10, one cut short 11.
abbrev pub read_as : Result (Option Next) Fault → Found
read_as (Ok None) = nothing
read_as (Ok (Some next)) = command next.byte (command_as next.command) next.took
read_as (Err (Unknown byte)) = refusal byte 10
read_as (Err (CutShort byte)) = refusal byte 11
