use Rattle.std.proofs.Common.{rules, ◌≡◌, ◌<◌}
use Rattle.std.specs.Prelude.{IsAscii}
use Rattle.std.proofs.lemmas.List.Elements.{All-from_recursion}
use Rattle.std.proofs.lemmas.Str.{IsUtf8-from_ascii}
use Rattle.std.proofs.lemmas.Str.Ascii.{IsAscii-from_all}
use Rattle.hex.specs.Hex.{lower_digits, encode_lower}
use Rattle.hex.proofs.HexLemmas.{IsAscii-encode_with}
use Rattle.shm_print.proofs.event.push_bytes.Goals as goal

-- digits are text
pub unwrap-requires-2 : goal.unwrap-requires-2
unwrap-requires-2 c =
    let digits : IsAscii lower_digits = IsAscii-from_all lower_digits (All-from_recursion (λ b. b < 128) lower_digits (search rules)) in
    let ascii : IsAscii (encode_lower c.args.bytes.now) = IsAscii-encode_with lower_digits c.args.bytes.now digits in
    let written : c.encode_to_slice.new.output ≡ encode_lower c.args.bytes.now = search rules in
    let text = IsUtf8-from_ascii c.encode_to_slice.new.output (rw written ascii) in
    search (rules, text)
