-- Worked rows, by computing: findings, and their text.
use Rattle.std.specs.Prelude.{◌≡◌, ℕ, List, [], ◌∷◌, ◌++◌, codes, Option, Some, None, refl}
use Rattle.std.specs.Fmt.{digits}
use Rattle.schematron_findings.specs.declared.level.Level.{Level}
use Rattle.schematron_findings.specs.declared.level.Level.TheVariants as levels
use Rattle.schematron_findings.specs.declared.finding.FindingKind.{FindingKind}
use Rattle.schematron_findings.specs.declared.finding.FindingKind.TheVariants as outcomes
use Rattle.schematron_findings.specs.declared.finding.Line.{Line}
use Rattle.schematron_findings.specs.declared.finding.Line.TheVariants as line
use Rattle.xpath_items.specs.declared.outcome.DynError.TheVariants.{FOAR0001}
use Rattle.json_text.specs.Layout.{short_escape, character_text, document}
use Rattle.findings_json.specs.FindingsJson.{findings_json}

abbrev found : FindingKind → Level → Option (List ℕ) → List ℕ → Line
found outcome level id message = line.Found (record {
  outcome = outcome;
  test = [];
  location = codes "/a";
  message = message;
  id = id;
  flag = None;
  role = None;
  level = level;
})

-- a line and its end
abbrev ended : List ℕ → List ℕ → List ℕ
ended text more = text ++ 0xA ∷ more

none : document (findings_json (codes "f") (codes "r" ∷ []) ((line.Pattern None ∷ line.Fired 0 0 [] ∷ []) ∷ []))
    ≡ ended (codes "{")
    (ended (codes "  \"file\": \"f\",")
    (ended (codes "  \"findings\": [],")
    (ended (codes "  \"counts\": {")
    (ended (codes "    \"failed\": 0,")
    (ended (codes "    \"reported\": 0,")
    (ended (codes "    \"errors\": 0,")
    (ended (codes "    \"minor\": 0")
    (ended (codes "  }")
    (ended (codes "}") [])))))))))
unfolding digits short_escape character_text findings_json
none = refl

-- one of each sort, in two files, the second of which has no name among those given
some : document (findings_json (codes "f") (codes "r \"1\"" ∷ [])
    ((found outcomes.Failed levels.Fatal (Some (codes "A")) (codes "a") ∷ line.Fired 0 0 [] ∷ found (outcomes.Error FOAR0001) levels.Fatal None (codes "b") ∷ [])
    ∷ (found outcomes.Reported levels.Fatal None (codes "c") ∷ found outcomes.Failed levels.Information (Some (codes "I")) (codes "d") ∷ []) ∷ []))
    ≡ ended (codes "{")
    (ended (codes "  \"file\": \"f\",")
    (ended (codes "  \"findings\": [")
    (ended (codes "    {")
    (ended (codes "      \"rules\": \"r \\\"1\\\"\",")
    (ended (codes "      \"kind\": \"failed\",")
    (ended (codes "      \"id\": \"A\",")
    (ended (codes "      \"location\": \"/a\",")
    (ended (codes "      \"message\": \"a\"")
    (ended (codes "    },")
    (ended (codes "    {")
    (ended (codes "      \"rules\": \"r \\\"1\\\"\",")
    (ended (codes "      \"kind\": \"error\",")
    (ended (codes "      \"code\": \"FOAR0001\",")
    (ended (codes "      \"location\": \"/a\",")
    (ended (codes "      \"message\": \"b\"")
    (ended (codes "    },")
    (ended (codes "    {")
    (ended (codes "      \"kind\": \"reported\",")
    (ended (codes "      \"location\": \"/a\",")
    (ended (codes "      \"message\": \"c\"")
    (ended (codes "    },")
    (ended (codes "    {")
    (ended (codes "      \"kind\": \"information\",")
    (ended (codes "      \"id\": \"I\",")
    (ended (codes "      \"location\": \"/a\",")
    (ended (codes "      \"message\": \"d\"")
    (ended (codes "    }")
    (ended (codes "  ],")
    (ended (codes "  \"counts\": {")
    (ended (codes "    \"failed\": 1,")
    (ended (codes "    \"reported\": 1,")
    (ended (codes "    \"errors\": 1,")
    (ended (codes "    \"minor\": 1")
    (ended (codes "  }")
    (ended (codes "}") [])))))))))))))))))))))))))))))))))))
unfolding digits short_escape character_text findings_json
some = refl
