-- What a request asks for.
use Rattle.std.specs.Prelude.{ℕ, ◌≤◌, List, length}
use Rattle.cv_base.specs.declared.policy.Policy.{Policy}
use Rattle.cv_cache.specs.Compiled.{Compiled, compiled}
use Rattle.cv_frame.specs.Sizes.{most_body}
use Rattle.cv_world.specs.declared.op.Op.{Op}
use Rattle.cv_world.specs.declared.op.Op.TheVariants as op

pub data Action : Type 0 where
  -- holds the charmap that a text was compiled to, if it could be compiled
  Put : (charmap : Compiled) → Action
  -- drops the charmap of this name
  DropMap : (name : List ℕ) → Action
  -- opens a descriptor that converts to one encoding from another, both by name, under a policy
  Open : (to from : List ℕ) (policy : Policy) → Action
  -- converts an input by a descriptor, into at most `room` bytes
  Conv : (number room : ℕ) (input : List ℕ) → Action
  -- takes both states of a descriptor to their start, with `room` bytes for what closes a shift
  Reset : (number room : ℕ) → Action
  -- closes a descriptor
  Close : (number : ℕ) → Action
  -- frees all that the caller has
  Bye : Action
  -- appends to the part of an upload, or drops the part if there are no bytes
  Part : (bytes : List ℕ) → Action
  -- an unknown op, or a body that is not of its op's form
  Bad : Action

-- what an op of the program asks for
abbrev pub asked : Op → Action
asked (op.Put charmap) = Put (compiled charmap)
asked (op.DropMap name) = DropMap name.now
asked (op.Open to from policy) = Open to.now from.now policy
asked (op.Conv number room input) = Conv number room input.now
asked (op.Reset number room) = Reset number room
asked (op.Close number) = Close number
asked op.Bye = Bye
asked (op.Part bytes) = Part bytes.now
asked op.Bad = Bad

-- the input is no longer than the body of a frame
abbrev pub InputFits : Op → Type 0
InputFits (op.Put charmap) = Unit {0}
InputFits (op.DropMap name) = Unit {0}
InputFits (op.Open to from policy) = Unit {0}
InputFits (op.Conv number room input) = length input.now ≤ most_body
InputFits (op.Reset number room) = Unit {0}
InputFits (op.Close number) = Unit {0}
InputFits op.Bye = Unit {0}
InputFits (op.Part bytes) = Unit {0}
InputFits op.Bad = Unit {0}
