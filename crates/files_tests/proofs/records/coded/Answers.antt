use Rattle.std.proofs.Common.{◌≡◌, ◌^◌, length, ap, ◌∙◌, arith, false}
use Rattle.std.proofs.lemmas.Bool.{lt-ltb}
use Rattle.files_tests.proofs.records.coded.Goals as goal

pub encode-requires : goal.encode-requires
encode-requires c =
    let value : c.new.result ≡ c.args.value.now =
    c.new.ensures ∙ c.in_ok-to_vec.ensures.items_if_clones_equal (λ x y same. same) in
    (record { objects = 0; cap = 0; more = false }, lt-ltb (length c.new.result) (2 ^ 32) (omega (arith, ap length value, c.requires)))
