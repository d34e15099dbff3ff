-- Why a stream or a call ended.
use Rattle.std.specs.Prelude.{ℕ, Bool, true, Option, None, Some}
use Rattle.cv_loop.specs.declared.fault.ServeFault.TheVariants as serving
use Rattle.cv_commands.specs.Status.{status_of}
use Rattle.cv_commands.specs.declared.fault.RunFault.{RunFault}
use Rattle.cv_commands.specs.declared.fault.RunFault.TheVariants.{Serve}
use Rattle.cv_tcp.specs.declared.fault.StreamFault.{StreamFault}
use Rattle.cv_tcp.specs.declared.fault.StreamFault.TheVariants.{Idle, Stalled, Drained, Cut, Run}
use Rattle.cv_tcp.specs.declared.ticking.EndedBy.{EndedBy}
use Rattle.cv_tcp.specs.declared.ticking.EndedBy.TheVariants.{Client, Drain, Deadline}
use Rattle.cv_tcp.specs.declared.fault.CallFault.{CallFault}
use Rattle.cv_tcp.specs.declared.fault.CallFault.TheVariants as calling

-- A read that timed out means an idle client, a write that timed out a stalled one. Every other fault is serving's own.
abbrev pub end_of : RunFault → Bool → Bool → StreamFault
end_of (Serve serving.Read) true late_write = Idle
end_of (Serve (serving.Write n)) late_read true = Stalled
end_of fault late_read late_write = Run fault

-- The end of a drain's time cuts every stream. A drain cuts a stream that is within a frame; one whose serving had no
-- fault is drained. Other faults stay.
abbrev pub stream_end : Option StreamFault → EndedBy → Option StreamFault
stream_end fault Client = fault
stream_end fault Deadline = Some Cut
stream_end None Drain = Some Drained
stream_end (Some (Run (Serve serving.TruncatedFrame))) Drain = Some Cut
stream_end fault Drain = fault

-- A read or a write of a call that timed out means no reply. Every other fault is asking's own.
abbrev pub call_end_of : RunFault → Bool → Bool → CallFault
call_end_of (Serve serving.Read) true late_write = calling.NoReply
call_end_of (Serve (serving.Write n)) late_read true = calling.NoReply
call_end_of fault late_read late_write = calling.Run fault

-- The exit status of a call that ended by this fault.
abbrev pub call_status_of : CallFault → ℕ
call_status_of calling.NoReply = 1
call_status_of (calling.Run fault) = status_of fault
