use Rattle.std.proofs.Common.{◌≡◌, drop}
use Rattle.bind_table.specs.Extending.{extended}
use Rattle.bind_table.specs.Limits.{HasRooms}
use Rattle.bind_table.proofs.extending.push_terms.Given as goal

abbrev pub invariant-terms : goal.invariant-terms
invariant-terms l = record {
  room : HasRooms l.document_type l.binding (drop l.term-index l.terms);
  same : extended l.document_type l.binding (drop l.term-index l.terms) ≡ extended l.document_type l.initial.binding l.terms;
}
