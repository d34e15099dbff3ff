-- What an OPEN needs of its caller's table before anything changes.
use Rattle.std.specs.Prelude.{◌≡◌, ◌<◌, ℕ, List, Option, Some, None, is_none}
use Rattle.std.specs.List.{position}
use Rattle.cv_base.specs.declared.policy.Policy.{Policy}
use Rattle.cv_pivot.specs.Conversions.{start}
use Rattle.cv_frame.specs.declared.status.Status.{Status}
use Rattle.cv_frame.specs.declared.status.Status.TheVariants as status
use Rattle.cv_caller.specs.Tables.{Named, named_of}
use Rattle.cv_caller.specs.Keyed.{Keyed, named, place_at, AreHeld, Fits}
use Rattle.cv_caller.specs.Limits.{most_descriptors}
use Rattle.cv_world.specs.declared.opening.Opening.{Opening}

-- Why an OPEN is refused, by the free number and the encodings that were found.
abbrev pub Declines : Option ℕ → Option Named → Option Named → Status → Type 0
Declines None to from s = s ≡ status.TooManyDescriptors
Declines (Some number) (Some to) (Some from) s = s ≡ status.NoMemory
Declines (Some number) (Some to) None s = s ≡ status.Unsupported
Declines (Some number) None from s = s ≡ status.Unsupported

-- Why an OPEN of these names is refused at a caller's table.
abbrev pub DeclinesOpen : Keyed → List ℕ → List ℕ → Status → Type 0
DeclinesOpen keyed to from s =
    Declines (position is_none keyed.places) (named_of keyed.charmaps to) (named_of keyed.charmaps from) s

-- What an OPEN makes: the least free number, and a new conversion between the encodings of the names.
pub record IsOpening (keyed : Keyed) (to from : List ℕ) (policy : Policy) (opening : Opening) : Type 0 where
  pub number : position is_none keyed.places ≡ Some opening.number
  pub within : opening.number < most_descriptors
  pub free : place_at keyed opening.number ≡ None
  pub to_named : named_of keyed.charmaps to ≡ Some (named opening.to opening.conversion.to)
  pub from_named : named_of keyed.charmaps from ≡ Some (named opening.from opening.conversion.from)
  pub policy_is : opening.conversion.policy ≡ policy
  pub starts : opening.conversion.states ≡ start
  pub held : (key : ℕ) → AreHeld keyed.charmaps (record { key = key; to = opening.to; from = opening.from })
  pub fits : (key : ℕ)
      → Fits keyed.charmaps (record { key = key; to = opening.to; from = opening.from }) opening.conversion
