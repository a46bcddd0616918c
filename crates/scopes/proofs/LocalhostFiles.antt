-- The scope `localhost` shows the folder as it is, and what a scope shows of images are images of it.
use Rattle.std.proofs.Common.{◌≡◌, Some, refl, sym, subst}
use Rattle.host_core.specs.Crashes.{Left, MayLeave}
use Rattle.host_core.specs.State.{Files, Pending, settled, dirty, listing, State}
use Rattle.host_core.proofs.EntriesOfFiles.{same_files}
use Rattle.std.specs.Option.{option_map_or}
use Rattle.scopes.specs.Images.{may_seen, seen_may}
use Rattle.scopes.specs.Renaming.{known}
use Rattle.scopes.specs.Seeing.{get-seen}
use Rattle.scopes.specs.Views.{IsSeen, seen, seen_files, seen_pending}
use Rattle.scopes.specs.declared.scope.Scope.{Scope}
use Rattle.scopes.specs.declared.scope.Scope.TheVariants.{Localhost}

all_files : (files : Files) → seen_files Localhost files ≡ files
all_files files = same_files _ _ (λ q. get-seen Localhost files q)

all_pending : (p : Pending) (files : Files) → seen_pending Localhost p files ≡ p
all_pending settled files = refl
all_pending (dirty name) files = λ i. option_map_or dirty (known Localhost name i) (listing (seen_files Localhost files))
all_pending (listing before) files = λ i. listing (all_files before i)

pub whole_folder : (s : State) → seen Localhost s ≡ s
whole_folder s = λ i. record {
  inputs = s.inputs;
  files = all_files s.files i;
  pending = all_pending s.pending s.files i;
  output = s.output;
  restarts = s.restarts;
}

-- an image of what a scope shows is shown of an image
pub image_of : (scope : Scope) (s : State) (left : Left) → MayLeave (seen scope s) left → IsSeen scope (MayLeave s) left
image_of scope s left may = seen_may scope (Some s) left may

-- and the other way round
pub image_seen : (scope : Scope) (s : State) (left : Left) → IsSeen scope (MayLeave s) left → MayLeave (seen scope s) left
image_seen scope s left (whole, may, is) = subst (MayLeave (seen scope s)) (sym is) (may_seen scope (Some s) whole may)
