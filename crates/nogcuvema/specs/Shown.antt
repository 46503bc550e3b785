-- The structs that C reads, as values.
use Rattle.std.specs.Prelude.{ℕ}
use Rattle.std.specs.Int.{from_bool}
use Rattle.shm_base.specs.State.{Piece, Life, Unborn, Live, Ended}
use Rattle.shm_base.specs.declared.call.ShmidDs.{ShmidDs}
use Rattle.shm_base.specs.declared.paging.Tally.{Tally}
use Rattle.shm_base.specs.declared.paging.FlushReport.{FlushReport}
use Rattle.nogcuvema.specs.declared.structs.NogSegment.{NogSegment}
use Rattle.nogcuvema.specs.declared.structs.NogTally.{NogTally}
use Rattle.shm_life.specs.declared.listing.ShmInfo.{ShmInfo}
use Rattle.nogcuvema.specs.declared.structs.NogFlushed.{NogFlushed}
use Rattle.nogcuvema.specs.declared.structs.NogUsage.{NogUsage}
use Rattle.nogcuvema.specs.declared.structs.NogPiece.{NogPiece}
use Rattle.nogcuvema.specs.declared.structs.NogProcess.{NogProcess}

abbrev pub shown_by : NogSegment → ShmidDs
shown_by s =
    record {
      key = s.key;
      perm = record { uid = s.uid; gid = s.gid; cuid = s.cuid; cgid = s.cgid; mode = s.mode };
      status = record { 0 = s.status };
      size = s.size;
      cpid = s.cpid;
      lpid = s.lpid;
      nattch = s.nattch;
      atime = s.atime;
      dtime = s.dtime;
      ctime = s.ctime;
    }

abbrev pub tally_by : NogTally → Tally
tally_by t =
    record {
      events = t.events;
      segments = t.segments;
      reserved = t.reserved;
      locked = t.locked;
      frames = t.frames;
      resident = t.resident;
      dirty = t.dirty;
      slots = t.slots;
      used = t.used;
      ins = t.ins;
      outs = t.outs;
      failures = t.failures;
    }

abbrev pub report_by : NogFlushed → FlushReport
report_by f = record { written = f.written; failed = f.failed }

abbrev pub sums_by : NogUsage → ShmInfo
sums_by u = record { used_ids = u.used_ids; pages = u.pages; resident = u.resident; swapped = u.swapped }

abbrev pub piece_shown : Piece → NogPiece
piece_shown p =
    record {
      base = p.base;
      segment = p.seg;
      first_page = p.first_page;
      pages = p.pages;
      is_writable = from_bool p.writable;
      may_write = from_bool p.may_write;
      unused = 0;
    }

-- a process as a listing shows it: 0 for a child that is not born yet, 1 for live, 2 for ended
abbrev pub process_shown : ℕ → Life → NogProcess
process_shown pid Unborn = record { pid = pid; is_born = 0; uid = 0; gid = 0 }
process_shown pid (Live cred) = record { pid = pid; is_born = 1; uid = cred.uid; gid = cred.gid }
process_shown pid Ended = record { pid = pid; is_born = 2; uid = 0; gid = 0 }
