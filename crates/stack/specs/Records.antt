-- A frame's fields: its first eight bytes, and the record that stands for them.
use Rattle.std.specs.Prelude.{Bool, true, false, List, [], ◌∷◌, ℕ, get_or}
use Rattle.layout.specs.Frame.{frame_input, frame_step, frame_available, frame_reached, frame_provisional, frame_overflow, frame_is_head, frame_tracks, truth}
use Rattle.stack.specs.declared.frame.fields.FrameRecord.{FrameRecord}

abbrev pub record_of : List ℕ → FrameRecord
record_of bs =
    record {
      input = get_or bs frame_input 0;
      step = get_or bs frame_step 0;
      available = get_or bs frame_available 0;
      reached = get_or bs frame_reached 0;
      provisional = get_or bs frame_provisional 0;
      overflow = truth (get_or bs frame_overflow 0);
      head = get_or bs frame_is_head 0;
      tracks = get_or bs frame_tracks 0;
    }

abbrev pub flag_byte : Bool → ℕ
flag_byte true = 1
flag_byte false = 0

abbrev pub bytes_of : FrameRecord → List ℕ
bytes_of f = f.input ∷ f.step ∷ f.available ∷ f.reached ∷ f.provisional ∷ flag_byte f.overflow ∷ f.head ∷ f.tracks ∷ []

-- the record with the mark
abbrev pub overflowed : FrameRecord → FrameRecord
overflowed f =
    record {
      input = f.input;
      step = f.step;
      available = f.available;
      reached = f.reached;
      provisional = f.provisional;
      overflow = true;
      head = f.head;
      tracks = f.tracks;
    }
