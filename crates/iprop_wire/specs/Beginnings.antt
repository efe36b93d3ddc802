-- Bytes with which a message begins, as far as they are judged.
use Rattle.std.specs.Prelude.{ℕ, ◌≡◌, ◌<◌, ◌≤◌, ◌+◌, true, List, ◌∷◌, ◌++◌, length, slice_index}
use Rattle.std.specs.List.{flat_map}
use Rattle.byteorder.specs.Endian.{big_number}
use Rattle.iprop_wire.specs.Decoding.{is_length}
use Rattle.iprop_wire.specs.Frames.{Frame, text_of}
use Rattle.iprop_wire.specs.Spelled.{AreFrames, IsMessage}
use Rattle.iprop_wire.specs.declared.messages.Message.{Message}

-- Whole frames, and bytes of one that is not whole. Some message has these frames, and then one of that kind.
pub record IsBeginning (text : List ℕ) : Type 0 where
  pub frames : List Frame
  pub rest : List ℕ
  pub whole : text ≡ flat_map text_of frames ++ rest
  pub length_good : 4 ≤ length rest → is_length (big_number 4 rest) ≡ true
  pub short : 4 ≤ length rest → length rest < 4 + big_number 4 rest
  pub message : Message
  pub next : Frame
  pub more : List Frame
  pub is_message : IsMessage message
  pub are : AreFrames (frames ++ (next ∷ more)) message
  pub kind_is : 5 ≤ length rest → slice_index rest 4 ≡ next.kind
