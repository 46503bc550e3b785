-- The record of a step: what the step did, and the state of the machine and its memory after it, line by line.
use Rattle.std.specs.Prelude.{ℕ, ◌+◌, Bool, false, if◌then◌else◌, List, [], ◌∷◌, ◌++◌, codes, length, Option, Some, None}
use Rattle.std.specs.Fmt.{decimal, digits}
use Rattle.std.specs.List.{flat_map}
use Rattle.shm_base.specs.State.{Piece, Runner}
use Rattle.shm_base.specs.Callers.{Caller, caller_from}
use Rattle.shm_base.specs.Step.{unborn_from}
use Rattle.shm_base.specs.declared.call.Process.{Process}
use Rattle.shm_base.specs.declared.paging.PageRef.{PageRef}
use Rattle.shm_slots.specs.View.{AreaView, SwapView, size_of}
use Rattle.shm_frames.specs.Frame.{Frame}
use Rattle.shm_fault.specs.Store.{StoreView}
use Rattle.shm_history.specs.WorldState.{WorldState, tally_of}
use Rattle.shm_print.specs.Text.{event_text}
use Rattle.shm_program.specs.Listing.{listing_of}
use Rattle.shm_print.specs.Usage.{usage_text}
use Rattle.shm_program.specs.declared.action.Action.{Action}
use Rattle.shm_program.specs.declared.action.Action.TheVariants.{Start, Call, Flush}

-- the texts of the items of a list, each with its number
module _ {X : Type 0} where
  abbrev pub numbered : (ℕ → X → List ℕ) → ℕ → List X → List ℕ
  numbered text i [] = []
  numbered text i (x ∷ xs) = text i x ++ numbered text (i + 1) xs

-- WHAT THE STEP DID

-- `start`; a call's line of the history at place n; or a flush round
abbrev pub action_text : ℕ → Action → List ℕ
action_text n Start = codes "start\n"
action_text n (Call e) = codes "call " ++ event_text n e
action_text n (Flush pages r) = codes "flush " ++ (decimal pages ++ (codes " written " ++ (decimal r.written ++ (codes " failed " ++ (decimal r.failed ++ codes "\n")))))

-- THE PROCESSES

-- `piece BASE SEGMENT FIRST_PAGE PAGES rw`, or `ro` if it is read-only
abbrev pub piece_line : Piece → List ℕ
piece_line p = codes "piece 0x" ++ (digits 16 false p.base ++ (codes " " ++ (decimal p.seg ++ (codes " " ++ (decimal p.first_page ++ (codes " " ++ (decimal p.pages ++ (codes " " ++ ((if p.writable then codes "rw" else codes "ro") ++ codes "\n")))))))))

abbrev pub pieces_text : List Piece → List ℕ
pieces_text ps = flat_map piece_line ps

-- a process that is not live was not born yet, or has ended
abbrev pub idle_text : Option ℕ → List ℕ
idle_text None = codes " ended\n"
idle_text (Some index) = codes " unborn\n"

abbrev pub process_by : ℕ → Option ℕ → Option Caller → List ℕ
process_by pid unborn None = codes "process " ++ (decimal pid ++ idle_text unborn)
process_by pid unborn (Some c) = codes "process " ++ (decimal pid ++ (codes " live " ++ (decimal c.cred.uid ++ (codes " " ++ (decimal c.cred.gid ++ (codes "\n" ++ pieces_text c.pieces))))))

-- `process PID live UID GID` and its pieces in order of their bases; `process PID unborn`; or `process PID ended`
abbrev pub process_text : List Runner → ℕ → List ℕ
process_text rs pid = process_by pid (unborn_from 0 pid rs) (caller_from 0 pid rs)

-- the declared processes in their order
abbrev pub processes_text : List Runner → List Process → List ℕ
processes_text rs [] = []
processes_text rs (p ∷ ps) = process_text rs p.pid ++ processes_text rs ps

-- THE MEMORY

-- `r` if the referenced bit is set, and `d` if the dirty bit is
abbrev pub bits_text : Bool → Bool → List ℕ
bits_text referenced dirty = (if referenced then codes "r" else codes "-") ++ (if dirty then codes "d" else codes "-")

abbrev pub page_text : PageRef → List ℕ
page_text p = decimal p.seg ++ (codes " " ++ decimal p.page)

abbrev pub frame_line_for : ℕ → Frame → Option PageRef → List ℕ
frame_line_for i f None = []
frame_line_for i f (Some p) = codes "frame " ++ (decimal i ++ (codes " " ++ (page_text p ++ (codes " " ++ (bits_text f.referenced f.dirty ++ codes "\n")))))

-- `frame NUMBER SEGMENT PAGE BITS` if a page owns it, nothing if it is free
abbrev pub frame_line : ℕ → Frame → List ℕ
frame_line i f = frame_line_for i f f.owner

-- the number of frames, the position of the clock's hand, and the frames that are owned
abbrev pub frames_text : StoreView → List ℕ
frames_text m = codes "frames " ++ (decimal (length m.frames) ++ (codes " hand " ++ (decimal m.hand ++ (codes "\n" ++ numbered frame_line 0 m.frames))))

-- `slot AREA NUMBER SEGMENT PAGE` if a page owns it, nothing if it is free
abbrev pub slot_line : ℕ → ℕ → Option PageRef → List ℕ
slot_line area i None = []
slot_line area i (Some p) = codes "slot " ++ (decimal area ++ (codes " " ++ (decimal i ++ (codes " " ++ (page_text p ++ codes "\n")))))

abbrev pub area_line : ℕ → Option ℕ → List ℕ
area_line i None = codes "area " ++ (decimal i ++ codes " gone\n")
area_line i (Some slots) = codes "area " ++ (decimal i ++ (codes " " ++ (decimal slots ++ codes "\n")))

-- how many slots an area has, or that it is gone; and the slots that are owned
abbrev pub area_text : ℕ → AreaView → List ℕ
area_text i a = area_line i (size_of a) ++ numbered (slot_line i) 0 a.owners

abbrev pub areas_text : SwapView → List ℕ
areas_text s = numbered area_text 0 s.areas

-- THE STEP

-- the segments of the listing, and the processes
unfoldable pub machine_text : WorldState → List ℕ
machine_text w = listing_of w.machine ++ processes_text w.machine.runners w.opening.processes

-- the frames and the swap areas
unfoldable pub memory_text : StoreView → List ℕ
memory_text m = frames_text m ++ areas_text m.swap

unfoldable pub counts_text : WorldState → List ℕ
counts_text w = usage_text (tally_of w)

-- the step's number, its action, and then the machine, its memory and the counts after it; an empty line ends the record
abbrev pub step_text : ℕ → Action → WorldState → List ℕ
step_text n action w =
    codes "step " ++ (decimal n ++ (codes "\n" ++ (action_text (length w.events) action ++ (machine_text w ++ (memory_text w.memory ++ (counts_text w ++ codes "\n"))))))
