use Rattle.std.proofs.Common.{◌≡◌, ℕ, List, IfSome, Vec, Global, option_map, subst}
use Rattle.std.specs.FinMap.{get}
use Rattle.checkpoints.specs.Migrations.{new_file, old_held}
use Rattle.checkpoints.specs.Names.{point_file}
use Rattle.checkpoints.specs.Points.{held, points}
use Rattle.checkpoints.specs.Rewrites.{IsNewText, rewrite_view}
use Rattle.checkpoints.proofs.OldCheckpoints.{by_name, due_there, found_there, none_there}
use Rattle.checkpoints.proofs.migrating.find_rewrite.Goals as goal

pub returns-in-None-clause-found : goal.returns-in-None-clause-found
returns-in-None-clause-found g c =
    let told = g.H.Host.told c.args.host.now in
    let name = c.args.name.now in
    let found = c.in_ok-file.found in
    none_there told name found c.in-None.is
    (by_name told (λ s q. option_map (λ (v : Vec ℕ Global). v.items) found ≡ get s.files (point_file q)) c.as_str.result.now name c.as_str.ensures.text c.in_ok-file.ensures.found)

pub returns-in_ok-rewrite-in-Some-clause-found : goal.returns-in_ok-rewrite-in-Some-clause-found
returns-in_ok-rewrite-in-Some-clause-found g c =
    let told = g.H.Host.told c.args.host.now in
    let name = c.args.name.now in
    let found = c.in_ok-file.found in
    let rewrite = c.in_ok-rewrite-in-Some.rewrite in
    found_there told name found c.in-Some.bytes rewrite c.in-Some.is
    (by_name told (λ s q. option_map (λ (v : Vec ℕ Global). v.items) found ≡ get s.files (point_file q)) c.as_str.result.now name c.as_str.ensures.text c.in_ok-file.ensures.found)
    (subst (λ (b : List ℕ). option_map rewrite_view rewrite ≡ option_map (new_file name) (old_held b)) c.deref.ensures.value c.in_ok-rewrite-in-Some.ensures.found)

pub returns-in_ok-rewrite-in-Some-clause-due : goal.returns-in_ok-rewrite-in-Some-clause-due
returns-in_ok-rewrite-in-Some-clause-due g c =
    let told = g.H.Host.told c.args.host.now in
    let name = c.args.name.now in
    let found = c.in_ok-file.found in
    let rewrite = c.in_ok-rewrite-in-Some.rewrite in
    due_there told name found c.in-Some.bytes rewrite c.requires.good c.in-Some.is
    (by_name told (λ s q. option_map (λ (v : Vec ℕ Global). v.items) found ≡ get s.files (point_file q)) c.as_str.result.now name c.as_str.ensures.text c.in_ok-file.ensures.found)
    (by_name told (λ s q. option_map (λ (v : Vec ℕ Global). held v.items) found ≡ get (points s.files) q) c.as_str.result.now name c.as_str.ensures.text c.in_ok-file.ensures.point)
    (subst (λ (b : List ℕ). option_map rewrite_view rewrite ≡ option_map (new_file name) (old_held b)) c.deref.ensures.value c.in_ok-rewrite-in-Some.ensures.found)
    (subst (λ (b : List ℕ). IfSome rewrite (λ x. IsNewText b x.text.items)) c.deref.ensures.value c.in_ok-rewrite-in-Some.ensures.text)
