-- The body of a DROP is a name, encoded, and no other body is read as one.
use Rattle.std.proofs.Common.{◌≡◌, ℕ, false, ltb, List, length, Some, refl, arith}
use Rattle.std.proofs.Math.Seq.{take-length, drop-length}
use Rattle.std.proofs.lemmas.Bool.{le-ltb}
use Rattle.cv_frame.specs.Bodies.{name_body, drop_of}
use Rattle.cv_frame.proofs.ReadBack.{drop_only}
use Rattle.cv_world.specs.Laws.{NamesReadBack}

drops : (name : List ℕ) → drop_of (name_body name) ≡ Some name
drops name =
    let long : ltb (length name) (length name) ≡ false = le-ltb _ _ (omega arith) in
    rw (long, take-length name, drop-length name) refl

-- The body of a DROP is a name, encoded, and no other body is read as one.
pub names_read_back : NamesReadBack
names_read_back = record { drops = drops; drops_only = drop_only }
