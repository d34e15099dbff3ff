-- The result of reading a charmap text.
use Rattle.std.specs.Prelude.{◌≡◌, Result, Ok, Err}
use Rattle.cv_charmap.specs.Meaning.{Charmap}
use Rattle.cv_charmap.specs.declared.fault.CompileFault.{CompileFault}
use Rattle.cv_charmap.specs.declared.fault.CompileFault.TheVariants as compile
use Rattle.cv_charmap.specs.declared.fault.MapFault.{MapFault}

-- A text was read as it means: its charmap, or its first fault. Nothing is claimed if an allocation failed.
abbrev pub Reads : Result Charmap MapFault → Result Charmap CompileFault → Type 0
Reads means (Ok charmap) = means ≡ Ok charmap
Reads means (Err (compile.Map fault)) = means ≡ Err fault
Reads means (Err compile.Memory) = Unit {0}
