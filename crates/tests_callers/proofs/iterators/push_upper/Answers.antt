use Rattle.std.proofs.Common.{rules, ◌≡◌, ◌∷◌, ◌++◌, [], map, take, ap, ◌∙◌}
use Rattle.std.specs.List.{flat_map}
use Rattle.std.proofs.lemmas.Iterator.{YieldsList-from_map_by}
use Rattle.std.proofs.lemmas.Iterator.Consumers.{YieldsList-from_first, YieldsList-at}
use Rattle.std.proofs.lemmas.List.{length-map, take-map}
use Rattle.ascii.specs.Case.{upper_image}
use Rattle.ascii.specs.Code.{code_of}
use Rattle.ascii.specs.View.{text_of}
use Rattle.ascii.proofs.ExtendLemmas.{all_from_extends, front_from_extends, ok_from_extends}
use Rattle.ascii.proofs.ExtendLemmas.{singles}
use Rattle.tests_callers.proofs.iterators.push_upper.Goals as goal

pub returns-clause-ok : goal.returns-clause-ok
returns-clause-ok c =
    let given = all_from_extends (λ code. code ∷ []) c.args.string.now c.extend_chars.new.self
    c.extend_chars.result c.extend_chars.ensures.extends
    (YieldsList-from_map_by _ code_of upper_image
    (YieldsList-at c.map.ensures.source
    (YieldsList-from_first code_of (λ chars. chars) (text_of c.args.view) c.chars.ensures))
    c.map.ensures.closure (λ x r q k. search rules)) in
    rw (singles (map upper_image (text_of c.args.view))) at given

pub returns-clause-succeeds : goal.returns-clause-succeeds
returns-clause-succeeds c fits =
    ok_from_extends (λ code. code ∷ []) c.args.string.now c.extend_chars.new.self
    c.extend_chars.result c.extend_chars.ensures.extends
    (YieldsList-from_map_by _ code_of upper_image
    (YieldsList-at c.map.ensures.source
    (YieldsList-from_first code_of (λ chars. chars) (text_of c.args.view) c.chars.ensures))
    c.map.ensures.closure (λ x r q k. search rules))
    (rw (
      singles (map upper_image (text_of c.args.view)),
      length-map (text_of c.args.view)
          upper_image,
    ) fits)

pub returns-clause-front : goal.returns-clause-front
returns-clause-front c =
    let given = front_from_extends (λ code. code ∷ []) c.args.string.now c.extend_chars.new.self
    c.extend_chars.result c.extend_chars.ensures.extends
    (YieldsList-from_map_by _ code_of upper_image
    (YieldsList-at c.map.ensures.source
    (YieldsList-from_first code_of (λ chars. chars) (text_of c.args.view) c.chars.ensures))
    c.map.ensures.closure (λ x r q k. search rules)) in
    let front : flat_map (λ code. code ∷ [])
    (take given.0 (map upper_image (text_of c.args.view))) ≡ map upper_image
    (take given.0 (text_of c.args.view)) =
    singles (take given.0 (map upper_image (text_of c.args.view)))
    ∙ take-map upper_image given.0 (text_of c.args.view) in
    (given.0, given.1 ∙ ap (λ t. c.args.string.now.text ++ t) front)
