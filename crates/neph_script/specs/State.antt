-- What was read of a script so far.
use Rattle.std.specs.Prelude.{ℕ, List, []}
use Rattle.neph_base.specs.declared.reply.Actor.{Actor}
use Rattle.neph_model.specs.declared.script.Script.{Script}
use Rattle.neph_model.specs.declared.script.Program.{Program}
use Rattle.neph_model.specs.declared.script.Label.{Label}
use Rattle.neph_model.specs.declared.script.Start.{Start}
use Rattle.neph_command.specs.declared.command.Said.{Said}
use Rattle.neph_script.specs.declared.state.Place.{Place}
use Rattle.neph_script.specs.declared.state.Place.TheVariants as place

-- a program whose `end` is still to come: its name, its commands and its labels so far
pub record Draft : Type 0 where
  pub name : List ℕ
  pub said : List Said
  pub labels : List Label

-- what was read so far, and at which place the next line stands
pub record Read : Type 0 where
  pub place : Place
  pub frames : ℕ
  pub programs : List Program
  pub draft : Draft
  pub starts : List Start
  -- how many lines with turns there were
  pub turn_lines : ℕ
  pub turns : List Actor

abbrev pub no_draft : Draft
no_draft = record { name = []; said = []; labels = [] }

-- nothing was read yet
abbrev pub nothing_read : Read
nothing_read = record {
  place = place.Top;
  frames = 0;
  programs = [];
  draft = no_draft;
  starts = [];
  turn_lines = 0;
  turns = [];
}

-- the script that was read
abbrev pub script_read : Read → Script
script_read r = record {
  frames = r.frames;
  programs = r.programs;
  starts = r.starts;
  turns = r.turns;
}
