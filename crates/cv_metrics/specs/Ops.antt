-- Which op a number is, and where an op is counted.
use Rattle.std.specs.Prelude.{ℕ, ◌==◌, if◌then◌else◌}
use Rattle.cv_frame.specs.Ops.{op_put, op_drop, op_open, op_conv, op_reset, op_close, op_bye, op_part}
use Rattle.cv_metrics.specs.declared.op_kind.OpKind.{OpKind}
use Rattle.cv_metrics.specs.declared.op_kind.OpKind.TheVariants.{Put, Drop, Open, Conv, Reset, Close, Bye, Part, Other}

-- The op that has this number in a request; `Other` for an unknown number.
abbrev pub op_of : ℕ → OpKind
op_of number =
    if number == op_put then Put else
    if number == op_drop then Drop else
    if number == op_open then Open else
    if number == op_conv then Conv else
    if number == op_reset then Reset else
    if number == op_close then Close else
    if number == op_bye then Bye else
    if number == op_part then Part else
    Other

-- The index of an op among all ops.
abbrev pub op_index : OpKind → ℕ
op_index Put = 0
op_index Drop = 1
op_index Open = 2
op_index Conv = 3
op_index Reset = 4
op_index Close = 5
op_index Bye = 6
op_index Part = 7
op_index Other = 8
