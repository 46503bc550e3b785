use Rattle.shm_program.proofs.Names.{rules, arith, ◌≡◌, ◌<◌, ◌+◌, ◌∙◌, ap, sym, ◌++◌, length, drop, string_bytes, append_assoc, segment_at, line_shown, lines_from}
use Rattle.shm_program.proofs.Rows.{lines_from-next}
use Rattle.shm_program.proofs.lines.listing.Goals as goal

pub loop-index-preserved : goal.loop-index-preserved
loop-index-preserved g c =
    let m = c.args.world.now.machine in
    let i = c.loop-index.index in
    let text = string_bytes c.loop-index.text in
    let within : i < length m.table = omega arith in
    let pushed : string_bytes c.push_line.new.text ≡ text ++ line_shown (segment_at m i) = search rules in
    record {
      whole =
          ap (λ t. t ++ lines_from m (i + 1) (drop (i + 1) m.table)) pushed
          ∙ append_assoc text _ _
          ∙ ap (λ t. text ++ t) (sym (lines_from-next m i within))
          ∙ c.loop-index.invariant.whole;
      last = c.loop-index.invariant.last;
    }
