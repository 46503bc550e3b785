use Rattle.std.proofs.Common.{rules, refl, subst, ◌≡◌, ◌∙◌, ap, ◌++◌, string_bytes}
use Rattle.shm_program.specs.declared.action.Action.TheVariants.{Start}
use Rattle.shmview.specs.Record.{shown_text, steps_text}
use Rattle.shmview.specs.declared.steps.Steps.{Steps}
use Rattle.shmview.proofs.lines.record.Goals as goal

pub returns : goal.returns
returns g c =
    let w = c.args.world.now in
    let (steps, later, ran, sound, same) = c.in_ok-push_lines.ensures in
    let first : string_bytes c.push_shown.new.text ≡ shown_text c.asked-steps.result 0 Start w = search rules in
    let printed = subst (λ (asked : Steps). string_bytes c.push_lines.new.text ≡ shown_text asked 0 Start w ++ steps_text asked 1 steps) c.asked-steps.ensures (same ∙ ap (λ t. t ++ steps_text c.asked-steps.result 1 steps) first) in record {
      start = w;
      steps = steps;
      end = c.push_lines.new.world;
      ran = record {
        begins = record { is_world = record { opened = c.requires.opened; over = refl; sound = c.push_shown.ensures.sound }; events = c.requires.events; memory = c.requires.memory };
        values = later;
        ran = ran;
      };
      sound = sound;
      few = c.requires.few;
      printed = printed;
    }
