-- The statuses of replies. Their numbers, and the names that POSIX does not have, are this project's own. E2BIG,
-- EILSEQ,
-- EINVAL, EBADF, EMFILE and ENOMEM are errors of iconv_open, iconv and iconv_close in POSIX.1-2017.
use Rattle.std.specs.Prelude.{ℕ, List, codes}
use Rattle.cv_frame.specs.declared.status.Status.{Status}
use Rattle.cv_frame.specs.declared.status.Status.TheVariants as status

-- the number of a status in a reply
abbrev pub status_number : Status → ℕ
status_number status.Ok = 0
status_number status.TooBig = 1
status_number status.Ill = 2
status_number status.Incomplete = 3
status_number status.BadDescriptor = 4
status_number status.TooManyDescriptors = 5
status_number status.NoMemory = 6
status_number status.Unsupported = 7
status_number status.BadRequest = 8
status_number status.BadMap = 9
status_number status.Exists = 10
status_number status.NoName = 11
status_number status.Busy = 12
status_number status.Quota = 13
status_number status.Room = 14
status_number status.Lacking = 15

-- the name of a status, in ASCII
abbrev pub status_name : Status → List ℕ
status_name status.Ok = codes "OK"
status_name status.TooBig = codes "E2BIG"
status_name status.Ill = codes "EILSEQ"
status_name status.Incomplete = codes "EINVAL"
status_name status.BadDescriptor = codes "EBADF"
status_name status.TooManyDescriptors = codes "EMFILE"
status_name status.NoMemory = codes "ENOMEM"
status_name status.Unsupported = codes "UNSUPPORTED"
status_name status.BadRequest = codes "BADREQ"
status_name status.BadMap = codes "BADMAP"
status_name status.Exists = codes "EXISTS"
status_name status.NoName = codes "NONAME"
status_name status.Busy = codes "BUSY"
status_name status.Quota = codes "QUOTA"
status_name status.Room = codes "ROOM"
status_name status.Lacking = codes "ENOCHAR"
