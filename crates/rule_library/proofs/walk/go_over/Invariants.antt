use Rattle.rule_library.specs.Leads.{Reaches}
use Rattle.rule_library.specs.Turns.{rest_of, Stands}
use Rattle.rule_library.proofs.walk.go_over.Given as goal

-- What was read leads to where the walk stands.
abbrev pub invariant-turns : goal.invariant-turns
invariant-turns g l = record {
  stands : Stands l.walk;
  reaches : Reaches (rest_of l.fn.walk) (rest_of l.walk) (g.S.Shelf.view l.initial.shelf) (g.S.Shelf.view l.shelf);
}
