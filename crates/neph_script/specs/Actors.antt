-- What a word in the place of an actor says.
use Rattle.std.specs.Prelude.{ℕ, if◌then◌else◌, List, codes, Option, Result, Ok, Err, slice_index}
use Rattle.std.specs.Option.{option_map, ok_or}
use Rattle.neph_base.specs.declared.reply.Actor.{Actor}
use Rattle.neph_base.specs.declared.reply.Actor.TheVariants as actor
use Rattle.neph_command.specs.Words.{equals, number_in, is_digit}
use Rattle.neph_command.specs.declared.why.Why.{Why}
use Rattle.neph_command.specs.declared.why.Why.TheVariants as why

-- a word in the place of a domain's number
abbrev pub numbered : Option ℕ → Result Actor Why
numbered o = ok_or (option_map actor.Dom o) why.Number

-- a word in the place of an actor
abbrev pub actor_named : List ℕ → Result Actor Why
actor_named word =
    if equals word (codes "daemon") then Ok actor.Daemon
    else (if equals word (codes "console") then Ok actor.Console
    else (if equals word (codes "net") then Ok actor.Net
    else (if equals word (codes "p9") then Ok actor.P9
    else (if is_digit (slice_index word 0) then numbered (number_in 1 63 word) else Err why.Word))))
