pub mod RoleKept
