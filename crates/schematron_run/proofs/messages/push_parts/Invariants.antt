use Rattle.std.proofs.Common.{◌≡◌, map, drop}
use Rattle.std.specs.List.{All, flat_map}
use Rattle.schematron_texts.specs.Messages.{Written}
use Rattle.schematron_run.specs.Judging.{part_text}
use Rattle.schematron_run.specs.Ready.{ready_part, IsPartFor}
use Rattle.schematron_run.specs.Inputs.{nodes_of}
use Rattle.schematron_run.specs.Telling.{Says}
use Rattle.schematron_run.proofs.messages.push_parts.Given as goal

-- What the parts to come say here, all say from the first on.
abbrev pub invariant-parts : goal.invariant-parts
invariant-parts g l =
    let f = part_text (nodes_of l.input) l.n l.env in
    record {
      same : map ready_part l.parts ≡ map ready_part l.initial.parts;
      ready : All (IsPartFor l.input.doc.now) l.parts;
      ahead : (new : Written) → Says (flat_map f (drop l.k (map ready_part l.initial.parts))) l.message new →
          Says (flat_map f (map ready_part l.initial.parts)) l.initial.message new;
    }
