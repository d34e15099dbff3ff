-- How the end of a stream is counted.
use Rattle.std.specs.Prelude.{Option, Some, None}
use Rattle.cv_loop.specs.declared.fault.ServeFault.TheVariants as serving
use Rattle.cv_commands.specs.declared.fault.RunFault.{RunFault}
use Rattle.cv_commands.specs.declared.fault.RunFault.TheVariants as run
use Rattle.cv_metrics.specs.declared.causes.EndCause.{EndCause}
use Rattle.cv_metrics.specs.declared.causes.EndCause.TheVariants as cause
use Rattle.cv_metrics.specs.declared.causes.FaultKind.{FaultKind}
use Rattle.cv_metrics.specs.declared.causes.FaultKind.TheVariants as kind
use Rattle.cv_tcp.specs.declared.fault.StreamFault.{StreamFault}
use Rattle.cv_tcp.specs.declared.fault.StreamFault.TheVariants as stream

-- The cause of a stream's end: its client, unless a fault or a drain ended it.
abbrev pub cause_of : Option StreamFault → EndCause
cause_of None = cause.Client
cause_of (Some stream.Idle) = cause.Idle
cause_of (Some stream.Stalled) = cause.Stalled
cause_of (Some stream.Drained) = cause.Drained
cause_of (Some stream.Cut) = cause.Cut
cause_of (Some (stream.Run f)) = cause.Fault

-- The kind of the fault that ended a run.
abbrev pub fault_kind_of : RunFault → FaultKind
fault_kind_of (run.Serve (serving.BadLength n)) = kind.BadLength
fault_kind_of (run.Serve serving.TruncatedFrame) = kind.TruncatedFrame
fault_kind_of (run.Serve serving.Read) = kind.Read
fault_kind_of (run.Serve (serving.Write n)) = kind.Write
fault_kind_of (run.Serve serving.Memory) = kind.Memory
fault_kind_of run.Memory = kind.Memory
fault_kind_of run.AcceptFailed = kind.Accept
fault_kind_of fault = kind.Other
